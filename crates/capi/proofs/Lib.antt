-- Laws that the proofs of the functions cite, and that every packed part can be read back.
pub mod Laws
pub mod Unpacking
