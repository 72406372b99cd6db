pub mod Carried
pub mod Joining
pub mod Overfull
pub mod Runs
pub mod Whole
