pub mod Stream
pub mod Stamps
pub mod Header
pub mod Promises
pub mod Claims
pub mod Steps
