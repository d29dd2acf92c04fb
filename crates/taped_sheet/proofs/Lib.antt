-- Laws that the proof of the tape of a sheet cites, and that its parts are all of it.
pub mod Laws
