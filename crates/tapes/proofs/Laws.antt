-- Laws of two tapes.
pub mod Differences
pub mod Checking
pub mod TakenParts
pub mod Own
pub mod Comparing
