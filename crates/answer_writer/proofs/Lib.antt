-- Laws that the proofs of those who print a line cite.
pub mod Bounds
