pub mod Choices
pub mod Claims
pub mod Stars
