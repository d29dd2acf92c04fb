-- The calls: refusals in order, soundness kept, locality, runs, proposals together in any order.
pub mod Access
pub mod StepKeeps
pub mod Refusals
pub mod CallsKeep
pub mod Refused
pub mod Local
pub mod Runs
pub mod Rounds
pub mod Accepted
pub mod StepsTaken
pub mod MetSoFar
pub mod Proposals
pub mod AnyOrder
pub mod Claims
