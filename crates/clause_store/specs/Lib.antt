pub mod Clauses
pub mod Index
pub mod Rows
