-- Laws of lists, by subject.
pub mod Lists
pub mod Walks
