pub mod Twice
pub mod Mixing
pub mod Example
