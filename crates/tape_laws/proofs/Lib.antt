-- The proofs of the claims, by subject.
pub mod LinesRead
pub mod LinesWritten
pub mod OwnTape
pub mod Unbroken
pub mod Compared
pub mod Culprits
pub mod Parts
