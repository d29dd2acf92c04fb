-- What the tape of a line promises, in the words of the model's tape.
pub mod TapedLines
