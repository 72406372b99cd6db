pub mod Sources
pub mod InTurn
pub mod Counted
