-- One law for each return of a function that has a proof file, over plain variables.
pub mod Places
pub mod Reads
pub mod Writes
pub mod Stores
