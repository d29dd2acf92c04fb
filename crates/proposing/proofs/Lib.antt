-- Laws that the proofs of proposals share.
pub mod Laws
