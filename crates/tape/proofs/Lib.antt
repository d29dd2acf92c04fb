-- Laws that the proof of the program cites.
pub mod Laws
