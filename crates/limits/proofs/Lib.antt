-- Each table, by computation.
pub mod Runs
pub mod Depths
