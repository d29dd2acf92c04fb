-- Termination over any type of figures: a station that is left alone, and one figure proposed by all. Nothing here
-- names a byte.
pub mod Climbs
pub mod Rest
pub mod Passes
pub mod LeftAlone
pub mod OneFigure
pub mod OwnSteps
