pub mod Verdict
pub mod Promises
pub mod Inner
