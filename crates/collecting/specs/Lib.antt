pub mod Collecting
pub mod Visited
