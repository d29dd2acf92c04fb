-- The rows of the tables, each by computing both sides. Nothing here needs to be believed; all of it is checked.
pub mod Starred
pub mod Cards
pub mod CountBounds
pub mod LeftRuns
