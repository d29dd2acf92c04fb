-- Laws over plain variables, one subject a file.
pub mod OneRound
pub mod AllRounds
pub mod WholeLine
