pub mod Entries
pub mod Images
pub mod Made
pub mod Counting
pub mod Torn
pub mod Followed
