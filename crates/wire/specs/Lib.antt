pub mod Readings
pub mod Calls
pub mod Promises
