pub mod Utf8
pub mod Utf16
pub mod Hashed
pub mod Examples
pub mod Inner
