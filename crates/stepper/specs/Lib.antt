-- The definition that the contract of the lent record cites.
pub mod InPlace
