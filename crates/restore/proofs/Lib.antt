pub mod Joined
pub mod Extending
pub mod Keeping
pub mod Taking
pub mod Needing
pub mod Indexing
pub mod Steps
pub mod Choosing
pub mod Splitting
pub mod Unwanted
pub mod Implied
mod Examples
