pub mod Heaps
pub mod Ranks
pub mod Places
pub mod Views
pub mod Orders
mod Examples
