pub mod Answers
pub mod Pmt
pub mod Listed
pub mod Promises
pub mod Claims
pub mod Steps
