pub mod Tables
pub mod Bits
pub mod Des
pub mod Keys
pub mod Rows
pub mod Inner
