-- Laws that the proof of `line_end` cites, and of a line between two places.
pub mod Laws
