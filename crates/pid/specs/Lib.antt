pub mod Pid
pub mod Promises
pub mod Claims
