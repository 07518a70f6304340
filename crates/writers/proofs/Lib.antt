pub mod Writing
pub mod Layouts
pub mod Trips
