-- What a comparison is as numbers, whatever its refusal is.
pub mod Numbers
pub mod Compared
