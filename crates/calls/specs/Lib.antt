pub mod Done
pub mod Ends
pub mod Stateless
pub mod Run
pub mod Promises
pub mod Inner
