-- Laws that the proofs of the functions, and of those who read and write words, cite.
pub mod Laws
