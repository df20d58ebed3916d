pub mod Rate
pub mod Steps
pub mod Promises
pub mod Nearest
pub mod Laws
pub mod Examples
pub mod Claims
