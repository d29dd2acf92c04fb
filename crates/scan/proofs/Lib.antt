-- What the proof of `find` cites, and the laws of the first mark for its callers.
pub mod Laws
