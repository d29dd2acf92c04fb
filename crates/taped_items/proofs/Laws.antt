-- Laws of the tape of a line's items, by subject.
pub mod TapeItems
