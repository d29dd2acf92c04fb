-- What the inner functions of the calls promise, and what a shown line by value says; the other public calls cite the model's
-- definitions.
pub mod Showing
pub mod Shown
