-- What the functions of the lexer promise, in the words of the model's forms.
pub mod Placed
pub mod Known
pub mod Words
