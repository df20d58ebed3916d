pub mod Stamp
pub mod Lengths
pub mod Start
pub mod Accepted
pub mod Dsmcc
pub mod Examples
pub mod Told
pub mod Claims
