pub mod Sorted
pub mod InPlace
pub mod Answered
mod InTwo
pub mod ByPixel
pub mod AsCounted
