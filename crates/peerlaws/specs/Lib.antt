pub mod Runs
pub mod Exact
pub mod Promises
pub mod Expected
pub mod Remarks
pub mod Texts
