-- What the inner functions of the board's test promise.
pub mod Shaped
pub mod Placed
