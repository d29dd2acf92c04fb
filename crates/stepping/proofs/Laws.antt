-- Laws over plain variables, one subject a file.
pub mod Checking
pub mod Running
pub mod Joined
pub mod Going
pub mod Repeated
