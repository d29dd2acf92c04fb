-- What an answer is as one number, whichever number its refusal has.
pub mod Packing
pub mod Numbered
