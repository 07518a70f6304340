pub mod Layouts
pub mod Hashes
pub mod Blocks
pub mod RoundTrip
pub mod Checks
pub mod Writes
