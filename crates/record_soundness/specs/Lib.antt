-- Names for groups of the model's clauses, which the contracts of this crate cite.
pub mod Groups
