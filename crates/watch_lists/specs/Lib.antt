pub mod Lists
pub mod Watch
pub mod Watched
