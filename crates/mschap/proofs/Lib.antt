pub mod Pieces
pub mod Users
pub mod Answers
pub mod Responses
