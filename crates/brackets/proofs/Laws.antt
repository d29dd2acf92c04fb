-- Laws of brackets, by subject.
pub mod Depth
