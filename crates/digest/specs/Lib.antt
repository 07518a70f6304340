pub mod Words
pub mod Blocks
pub mod Md4
pub mod Sha1
