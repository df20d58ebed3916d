pub mod Section
pub mod Promises
pub mod Claims
