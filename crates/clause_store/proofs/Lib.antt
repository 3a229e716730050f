pub mod Keys
pub mod Lists
pub mod Pairs
pub mod Changed
pub mod Stored
