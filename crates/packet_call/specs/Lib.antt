pub mod Packet
pub mod Promises
pub mod Claims
pub mod Steps
