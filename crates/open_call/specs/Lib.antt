pub mod Open
pub mod Steps
pub mod Promises
pub mod Claims
