pub mod Characters
pub mod Hashes
pub mod Examples
