pub mod Literals
pub mod Plain
pub mod Put
pub mod Room
