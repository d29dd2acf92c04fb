-- What the inner functions of proposals promise; the public calls cite the model's definitions.
pub mod Answers
pub mod Flags
pub mod Tried
pub mod Lent
