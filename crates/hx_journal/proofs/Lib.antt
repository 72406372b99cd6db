pub mod AtRest
mod Bodies
mod Damage
mod Differing
mod Digits
mod Gates
mod Headed
mod Jobs
mod Lines
mod Reading
mod Recorded
mod Steps
mod Trimming
pub mod Unique
mod Written
