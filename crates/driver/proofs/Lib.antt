pub mod Cases
pub mod StaysSound
pub mod Limits
pub mod Accounts
pub mod Choices
pub mod Stars
pub mod Claims
