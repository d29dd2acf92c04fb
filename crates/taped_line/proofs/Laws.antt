-- Laws of the tape of a line.
pub mod Entries
pub mod Lines
pub mod OnBoard
pub mod Passed
pub mod Played
pub mod Sheets
