-- The definitions that the contracts of the parts of a record cite.
pub mod Parts
