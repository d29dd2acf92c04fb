-- Laws over plain variables.
pub mod Known
pub mod Grown
