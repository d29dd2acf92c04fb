-- Laws of the reader, by subject.
pub mod Forms
pub mod Pairs
pub mod WholeLine
pub mod Readings
