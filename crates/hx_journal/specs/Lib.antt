pub mod Differences
pub mod Fronts
pub mod Headers
pub mod Journal
pub mod Laws
pub mod Recording
pub mod Refusals
