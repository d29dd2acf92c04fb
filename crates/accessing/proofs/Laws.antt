-- Laws of one step, one subject a file.
pub mod Ready
pub mod Touching
pub mod Putting
pub mod Met
pub mod Accessing
pub mod Counting
pub mod Stepping
