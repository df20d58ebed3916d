pub mod OpenStaysSound
pub mod Claims
