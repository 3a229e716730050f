pub mod Plan
pub mod Report
