-- What one step taped promises, in the words of the model's tape.
pub mod Taping
