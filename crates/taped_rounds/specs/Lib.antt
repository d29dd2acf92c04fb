-- What the functions of this crate promise, in the words of the model's rounds.
pub mod TapedRounds
