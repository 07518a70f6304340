pub mod Faults
pub mod Numbers
pub mod Promises
