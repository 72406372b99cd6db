pub mod Overlaps
pub mod Lists
