pub mod Passed
pub mod Claims
