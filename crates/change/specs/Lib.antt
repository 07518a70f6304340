pub mod Forms
pub mod Change
pub mod Writing
pub mod Promises
