pub mod Calls
pub mod Login
pub mod Tries
pub mod Premises
