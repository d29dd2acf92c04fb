-- What the calls for C answer that hand back a line or a part of one.
pub mod LentLines
