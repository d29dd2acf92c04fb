-- The laws that the line's model cites.
pub mod Padded
