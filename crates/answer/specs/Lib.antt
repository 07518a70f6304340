pub mod Answer
pub mod Outcome
pub mod Promises
pub mod Results
pub mod Runs
pub mod Sizes
