pub mod Lines
pub mod Fronts
pub mod Lists
pub mod Properties
pub mod Files
pub mod Catalogues
pub mod Answers
