pub mod AtPeer
pub mod AtServer
pub mod Pending
pub mod Login
pub mod Tries
pub mod Premises
