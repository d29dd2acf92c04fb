-- Tests that compute, loops over numbers, numbers of several bytes, parts of lists, and decimals: nothing of a board.
pub mod Tests
pub mod Loops
pub mod Numbers
pub mod Parts
pub mod Splices
pub mod Names
pub mod Ended
pub mod Decimals
