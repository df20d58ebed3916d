pub mod Told
pub mod Room
pub mod Loop
pub mod Cuts
pub mod Turns
pub mod Claims
