pub mod Trips
pub mod Puts
pub mod Fields
