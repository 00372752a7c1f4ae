pub mod Binds
pub mod Leaves
pub mod Request
pub mod Sorts
pub mod Types
