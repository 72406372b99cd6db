pub mod Calls
pub mod Sources
pub mod Sinks
pub mod Files
pub mod Logs
pub mod LogLaws
pub mod Stores
pub mod Exact
