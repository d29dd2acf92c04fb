-- What the end of a line is, in the words of the model's lines.
pub mod Ends
