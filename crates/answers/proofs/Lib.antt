-- Laws that the proofs of `next_answer` and of the program cite.
pub mod Sheets
