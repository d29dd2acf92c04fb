-- Laws of items gone over as they stand in a line, by subject.
pub mod Fuel
pub mod Items
pub mod Repeats
pub mod Passing
