pub mod Marking
pub mod Clashing
pub mod Listing
pub mod Comparing
mod Examples
