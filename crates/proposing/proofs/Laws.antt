-- Laws over plain variables, one subject a file.
pub mod Single
pub mod Flags
pub mod Trying
pub mod Lent
pub mod Together
