pub mod Apart
pub mod Outcomes
pub mod Told
