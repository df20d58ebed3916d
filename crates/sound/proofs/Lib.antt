pub mod Choices
pub mod Pass
pub mod Clauses
pub mod Areas
pub mod Pids
pub mod Claims
