-- Laws that the proofs of the readers of lists cite.
pub mod Laws
