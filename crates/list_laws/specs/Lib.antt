-- A list in brackets that stands in a line, as the code reads it.
pub mod Lists
