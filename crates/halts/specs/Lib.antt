-- What rounds ask of a board, which the contracts cite.
pub mod Needs
