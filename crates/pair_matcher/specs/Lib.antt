pub mod Turns
pub mod Sides
pub mod Inside
pub mod Taken
pub mod Checks
pub mod Conversion
