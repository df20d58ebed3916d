pub mod Verdict
pub mod Promises
pub mod Model
pub mod Ticks
pub mod Examples
pub mod Laws
pub mod Claims
