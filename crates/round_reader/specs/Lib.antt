-- What the functions of the reader of rounds promise, in the words of the model's forms.
pub mod Rounds
