pub mod State
pub mod Pieces
pub mod Ticks
pub mod Room
