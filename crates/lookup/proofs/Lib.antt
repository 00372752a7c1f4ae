pub mod Fragments
pub mod Members
pub mod Searching
pub mod Sets
