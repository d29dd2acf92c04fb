-- Laws over plain variables.
pub mod Phases
pub mod Refusing
pub mod Suspended
pub mod Turns
pub mod Rounds
pub mod Lent
pub mod Calling
