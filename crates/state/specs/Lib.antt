pub mod State
pub mod Choice
pub mod Steps
pub mod Promises
pub mod Claims
