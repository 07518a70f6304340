pub mod Stored
pub mod PeerOctets
pub mod ServerOctets
pub mod Promises
