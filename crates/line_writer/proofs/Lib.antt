-- Laws that the proofs of the functions, and of those who write lines, cite.
pub mod Decimals
pub mod LentBytes
pub mod Numbers
