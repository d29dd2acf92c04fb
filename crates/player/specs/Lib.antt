-- What the functions of the player promise, in the words of the model's sheet.
pub mod Played
