-- Tables about the definitions of model: each is one statement, and its rows are what a reader must believe of it.
pub mod Starred
pub mod Cards
pub mod CountBounds
pub mod LeftRuns
