pub mod Converted
pub mod Matched
pub mod Judged
