mod Again
mod Bounds
mod Checks
mod Counts
pub mod Entries
pub mod Framing
mod HeadersAgain
mod Lists
mod Suiting
mod Walked
mod WrittenCounts
