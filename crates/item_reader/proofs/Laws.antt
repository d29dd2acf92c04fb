-- Laws of the reader of items, by subject.
pub mod Times
pub mod Items
