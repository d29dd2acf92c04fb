-- Laws over plain variables, one subject a file.
pub mod Steps
pub mod Passed
pub mod PutIn
pub mod Single
pub mod Turn
