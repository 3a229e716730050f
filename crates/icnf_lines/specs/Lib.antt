pub mod Headers
pub mod Marks
pub mod Partners
pub mod NextLine
pub mod Matching
pub mod Parts
