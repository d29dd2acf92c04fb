-- What the proofs of this crate's functions cite; nothing here needs to be believed.
pub mod Laws
