-- Laws that the proofs of the functions cite.
pub mod Ends
pub mod Moves
