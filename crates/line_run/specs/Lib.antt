-- What the functions that run a line promise, in the words of the model's readers and runs.
pub mod LineRuns
