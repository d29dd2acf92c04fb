-- Laws that the proofs of one step cite.
pub mod Laws
