pub mod Close
pub mod Steps
pub mod Promises
pub mod Claims
