pub mod Answers
pub mod Section
pub mod Refusals
pub mod Loop
pub mod Promises
pub mod Claims
