pub mod EventLines
pub mod HeaderWords
pub mod Marking
pub mod Seeing
pub mod Finding
pub mod Pairing
pub mod Partnering
pub mod Running
