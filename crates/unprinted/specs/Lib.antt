-- What a line that is played without its answer promises.
pub mod Done
