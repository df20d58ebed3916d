pub mod Found
pub mod Chosen
pub mod Places
pub mod Claims
