pub mod Csv
pub mod Headers
pub mod Numbers
pub mod Parquet
pub mod Reading
pub mod Rows
pub mod Unread
