-- Laws about the store, its words and the walk along them.
pub mod Packing
pub mod Indices
pub mod Rows
pub mod Walking
pub mod Writing
