pub mod Findings
pub mod Rightness
