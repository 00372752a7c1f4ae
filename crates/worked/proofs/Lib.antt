-- The table of worked runs, by computation.
pub mod Runs
