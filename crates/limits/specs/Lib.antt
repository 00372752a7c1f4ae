-- Both sides of each limit, by worked runs and by worked depth checks.
pub mod Runs
pub mod Depths
