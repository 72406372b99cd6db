pub mod Searches
pub mod Pieces
