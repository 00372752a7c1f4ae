pub mod Ends
pub mod Coerced
