-- Laws that the proofs of the functions cite.
pub mod Handed
pub mod OneRead
pub mod ReadB
