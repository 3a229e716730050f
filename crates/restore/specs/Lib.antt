pub mod Resolution
pub mod Stack
pub mod Values
pub mod Indexed
pub mod Choice
pub mod Split
