-- One access of the listing: what a read and a move keep.
pub mod Collect
pub mod Sets
pub mod Cases
pub mod Written
pub mod Order
pub mod Met
pub mod Page
pub mod Rows
pub mod OneRead
pub mod Moves
pub mod MostSteps
pub mod MostMet
pub mod Tells
pub mod Going
