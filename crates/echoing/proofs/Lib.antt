pub mod Comes
pub mod Loop
pub mod Lawful
pub mod Leaves
pub mod Fields
pub mod Sources
pub mod Walk
