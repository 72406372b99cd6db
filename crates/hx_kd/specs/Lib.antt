pub mod Axes
pub mod Halves
pub mod Closest
pub mod Found
