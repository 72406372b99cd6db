pub mod Complete
pub mod Groups
pub mod Passing
pub mod Shortest
pub mod Sound
pub mod Trails
pub mod Written
pub mod Zigzags
