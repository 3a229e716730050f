pub mod Literal
pub mod Clause
pub mod Word
pub mod Numbering
pub mod Dense
