pub mod Sets
pub mod PutBack
pub mod PacketRead
pub mod Order
pub mod Claims
