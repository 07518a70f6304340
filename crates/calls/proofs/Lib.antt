pub mod Laws
pub mod Answers
pub mod Stateless
pub mod Stays
pub mod Carry
pub mod ServerRuns
pub mod PeerRuns
