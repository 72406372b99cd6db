pub mod Bounds
pub mod CoverBoxes
pub mod TooNear
pub mod Tested
pub mod Collected
pub mod Trees
