pub mod Linear
pub mod Rule
pub mod Claims
