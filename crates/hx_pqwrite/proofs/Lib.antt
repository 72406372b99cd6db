mod Bodies
mod Footers
mod Found
mod Pushing
mod Rows
mod Standing
mod Tables
mod Written
