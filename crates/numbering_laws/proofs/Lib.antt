pub mod Mapped
pub mod Propagated
pub mod Events
pub mod Faults
pub mod Hints
pub mod IdFaults
pub mod KnownRules
pub mod Growing
mod Examples
pub mod Given
