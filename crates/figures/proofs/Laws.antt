-- Laws over plain variables.
pub mod Order
pub mod Signs
pub mod Zeros
pub mod Pairs
