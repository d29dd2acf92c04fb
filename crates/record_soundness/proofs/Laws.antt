-- The laws by what they are about, from tests to the records.
pub mod Chains
pub mod Clauses
pub mod Held
pub mod Own
pub mod Counts
pub mod Records
