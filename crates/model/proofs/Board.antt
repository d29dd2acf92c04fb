-- The layout and soundness: offsets, encodings, a board after a write, and what a sound board says of its values.
pub mod Places
pub mod Phases
pub mod Changes
pub mod Codec
pub mod Canon
pub mod Boards
pub mod Good
pub mod SoundFacts
pub mod Values
pub mod Keeps
pub mod Fresh
