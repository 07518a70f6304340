pub mod Moves
pub mod Replies
pub mod Texts
