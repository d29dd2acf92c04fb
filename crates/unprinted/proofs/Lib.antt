-- Laws that the proofs of the functions, and of the tape of a line, cite.
pub mod Laws
