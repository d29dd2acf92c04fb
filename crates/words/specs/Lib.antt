-- The definitions that the contracts cite.
pub mod Index
pub mod Store
