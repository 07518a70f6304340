pub mod Promises
pub mod Writers
