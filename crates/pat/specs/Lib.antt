pub mod Answers
pub mod Pat
pub mod Listed
pub mod Promises
pub mod Claims
pub mod Steps
