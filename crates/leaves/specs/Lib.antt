-- What a leaf stands for, and what the functions that read and write it ensure.
pub mod Leaves
pub mod Literals
