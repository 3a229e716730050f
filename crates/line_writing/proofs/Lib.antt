pub mod Digits
pub mod Passing
pub mod Spaced
pub mod Wrote
