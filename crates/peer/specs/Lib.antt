pub mod State
pub mod Moves
pub mod Calls
pub mod Inner
