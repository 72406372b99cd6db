pub mod Histograms
pub mod Differences
pub mod Tallies
