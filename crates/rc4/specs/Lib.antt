pub mod Rc4
pub mod Promises
