-- What the functions of the reader of pairs promise, in the words of the model's forms.
pub mod Pairs
