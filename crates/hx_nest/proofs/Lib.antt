pub mod Interleaved
mod Spread
mod Sectors
mod Table
mod Spots
mod Corners
pub mod Law
mod Lists
mod Reached
pub mod Touches
pub mod Parents
pub mod Decided
