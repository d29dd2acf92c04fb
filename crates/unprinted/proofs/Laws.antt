-- What is left of the memory by each form that takes no step.
pub mod Done
