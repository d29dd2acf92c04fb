-- Laws of the tape of a sheet in parts.
pub mod Windows
pub mod Few
pub mod Keeping
pub mod NextPart
pub mod Whole
