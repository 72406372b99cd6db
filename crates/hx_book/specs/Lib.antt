pub mod Tasks
pub mod Values
pub mod Resumable
pub mod Books
pub mod Answers
pub mod Recordings
pub mod Slices
