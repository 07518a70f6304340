pub mod Records
pub mod Accounts
pub mod Account
pub mod Table
pub mod Promises
pub mod Inner
