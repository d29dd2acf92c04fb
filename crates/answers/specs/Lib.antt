-- What the next answer of a sheet promises, in the words of the model's sheet.
pub mod Answered
