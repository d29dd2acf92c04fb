-- What a function that goes over the items of a line asks and promises, whatever it does with their steps.
pub mod ItemWalks
