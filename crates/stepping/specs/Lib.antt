-- What the inner functions of a step promise; the public calls cite the model's definitions.
pub mod Stepped
