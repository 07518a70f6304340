pub mod Laws
pub mod Fields
pub mod Tables
pub mod Makes
