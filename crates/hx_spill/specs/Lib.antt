pub mod Items
pub mod Maps
pub mod Plans
pub mod Splits
pub mod Values
pub mod Alone
