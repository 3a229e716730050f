pub mod ClauseStates
pub mod Ids
pub mod Sets
