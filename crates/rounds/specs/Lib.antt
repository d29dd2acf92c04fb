-- What the inner functions of a call by the round promise; the public call cites the model's definitions.
pub mod Phases
pub mod Suspended
pub mod Rounds
pub mod Asked
