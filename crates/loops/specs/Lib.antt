pub mod Loop
pub mod Body
pub mod Walk
pub mod Promises
pub mod Claims
pub mod Steps
