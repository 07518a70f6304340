pub mod Users
pub mod Responses
pub mod Answers
pub mod Promises
