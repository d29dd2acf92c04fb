-- Laws that the proofs of the functions cite.
pub mod Standings
pub mod Statuses
pub mod Bounds
