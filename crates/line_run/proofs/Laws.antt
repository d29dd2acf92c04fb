-- Laws of the run of a line, by subject.
pub mod RunItems
pub mod Idle
pub mod Counting
