-- Claims about the definitions of a tape: what a reader must believe of its lines and of two tapes compared.
pub mod TapeLines
pub mod TwoTapes
