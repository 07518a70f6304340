pub mod Forms
pub mod Frame
pub mod Inner
pub mod Kinds
pub mod Learned
pub mod Promises
pub mod Reader
pub mod Texts
