-- Laws of the pairs of a line, by subject.
pub mod OnePair
pub mod AllPairs
pub mod WholeLine
