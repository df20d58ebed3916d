pub mod CloseStaysSound
pub mod Claims
