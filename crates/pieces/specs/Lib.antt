pub mod Input
pub mod Piece
pub mod Promises
pub mod Turns
pub mod Claims
pub mod Steps
