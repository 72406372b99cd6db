pub mod Cleaning
pub mod Given
pub mod Importing
pub mod Imports
pub mod Made
pub mod Working
