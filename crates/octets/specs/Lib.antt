pub mod Promises
pub mod Claims
