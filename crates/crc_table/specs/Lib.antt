pub mod Table
pub mod Promises
pub mod Claims
