-- Laws over plain variables, one subject a file.
pub mod Board
pub mod Compared
pub mod Rounds
pub mod Listed
pub mod LentLines
