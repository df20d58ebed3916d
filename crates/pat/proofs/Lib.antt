pub mod Examples
pub mod Programs
pub mod Listed
pub mod Passed
pub mod Limits
pub mod Whole
pub mod Claims
