pub mod Faults
pub mod Sources
pub mod Sinks
pub mod Folders
pub mod Disk
pub mod Laws
