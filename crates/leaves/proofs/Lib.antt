pub mod Coerced
pub mod Sorts
pub mod Strings
pub mod Puts
