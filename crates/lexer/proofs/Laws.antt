-- Laws of the lexer, by subject.
pub mod Places
pub mod Answers
pub mod Numbers
pub mod Spaced
pub mod Given
pub mod Known
pub mod KnownFigures
pub mod Words
pub mod Behind
