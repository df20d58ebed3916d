pub mod Figure
pub mod Promises
pub mod Claims
pub mod Steps
