-- Laws over plain variables, one subject a file.
pub mod Numbered
