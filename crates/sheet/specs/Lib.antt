-- What the functions of the reader promise, in the words of the model's forms.
pub mod LineForms
