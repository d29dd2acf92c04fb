-- Laws of the player, by subject.
pub mod Parts
pub mod Playing
pub mod PlayingRounds
pub mod PlayingPairs
pub mod Reading
