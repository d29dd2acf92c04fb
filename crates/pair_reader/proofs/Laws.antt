-- Laws of the reader of pairs.
pub mod Pairs
