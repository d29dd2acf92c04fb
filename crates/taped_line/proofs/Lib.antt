-- Laws that the proofs of a taped line cite.
pub mod Laws
