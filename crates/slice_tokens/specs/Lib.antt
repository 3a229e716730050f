pub mod Place
pub mod Due
pub mod Calls
pub mod Held
pub mod Front
