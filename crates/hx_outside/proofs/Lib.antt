pub mod Names
pub mod Runs
pub mod Steps
pub mod Calls
