pub mod Ranked
pub mod Placed
pub mod Heap
pub mod Shown
