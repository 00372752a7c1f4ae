pub mod Bits
pub mod Ends
pub mod Groups
pub mod Lawful
pub mod Leaves
pub mod Names
pub mod Shown
pub mod Walk
