-- What the tape of a sheet promises, part by part.
pub mod SheetParts
