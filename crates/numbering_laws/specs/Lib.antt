pub mod Dense
pub mod Kept
