-- Laws that the proofs of the functions, and of those who call them, cite.
pub mod Laws
