pub mod SectionLines
pub mod Room
pub mod Examples
pub mod Claims
