pub mod MetWords
pub mod Ranges
pub mod Reserved
pub mod Words
