-- Theorems about the definitions of specs/. Nothing here needs to be believed; all of it is checked.
pub mod Kit
pub mod Basics
pub mod Board
pub mod Listing
pub mod Calls
pub mod Agreement
pub mod Sequential
pub mod Termination
pub mod Bridge
pub mod Demand3
pub mod TwoStart
pub mod TwoStations
pub mod LeftRunning
pub mod Sheet
pub mod FilledRuns
