-- Laws that the proofs of the comparison cite.
pub mod Laws
