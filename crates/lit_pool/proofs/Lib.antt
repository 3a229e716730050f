pub mod Joining
pub mod PiecesMap
pub mod Placed
pub mod Raw
pub mod Slots
pub mod WordLists
