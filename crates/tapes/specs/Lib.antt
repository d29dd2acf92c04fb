-- What the comparison of tapes promises, in the words of the model's tapes.
pub mod Tested
pub mod Differences
pub mod Comparing
