pub mod Literal
pub mod Sets
pub mod Ascending
pub mod SetSteps
pub mod Members
pub mod Words
pub mod Digits
pub mod Back
pub mod WordKinds
pub mod Front
pub mod Places
pub mod Noted
pub mod Translated
mod Examples
