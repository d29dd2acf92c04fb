-- The sequential run: one station at a time, each to its end, over any type of figures.
pub mod Turns
pub mod Registers
pub mod Collected
pub mod Collects
pub mod Alone
pub mod Pass
pub mod Between
pub mod OneTurn
pub mod Sequential
