pub mod Bits
pub mod Padding
pub mod Operations
pub mod Schedules
pub mod Digests
