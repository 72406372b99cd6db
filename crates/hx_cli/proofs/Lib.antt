pub mod HistText
pub mod Planned
pub mod Spaced
pub mod OverFolders
pub mod FirstRefusals
pub mod Answered
pub mod Checked
