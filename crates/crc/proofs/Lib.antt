pub mod Examples
pub mod Bridge
pub mod Rule
pub mod Claims
