pub mod Sound
pub mod Promises
pub mod Claims
pub mod Steps
