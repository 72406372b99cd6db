pub mod Keeping
pub mod Halving
