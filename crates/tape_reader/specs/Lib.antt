-- What the reader of a tape line promises, in the words of the model's tape.
pub mod Reading
