pub mod Around
pub mod Slices
pub mod Inner
pub mod Beside
pub mod Steps
