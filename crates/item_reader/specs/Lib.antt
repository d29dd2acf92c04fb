-- What the functions of the reader of items promise, in the words of the model's forms.
pub mod Counts
