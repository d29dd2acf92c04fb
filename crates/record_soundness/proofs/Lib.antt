-- What the proofs of this crate's functions and of the board's test cite; nothing here needs to be believed.
pub mod Laws
