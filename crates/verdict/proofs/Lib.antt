pub mod Held
pub mod LineEnds
pub mod Listed
