pub mod Cleaned
pub mod Ranged
pub mod Inputs
pub mod Counted
pub mod Cuts
pub mod Gathered
pub mod Reduced
pub mod Margined
pub mod Working
pub mod Sourced
pub mod Ran
pub mod Handed
pub mod Written
pub mod Totals
pub mod Numbers
pub mod Placed
pub mod Firsts
mod Tested
