-- Laws over plain variables.
pub mod Checked
pub mod Placing
pub mod Rows
pub mod Verdicts
