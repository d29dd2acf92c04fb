-- Laws that the crates which go over the items of a line cite.
pub mod Laws
