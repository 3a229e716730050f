pub mod Lefts
mod Room
