-- Laws of the reader of rounds.
pub mod Rounds
