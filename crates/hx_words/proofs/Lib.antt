pub mod Numbers
pub mod OptionWords
pub mod FileWords
pub mod Requests
pub mod Named
