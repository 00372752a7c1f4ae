-- Worked runs for what the cases A to N leave out, chapter by chapter, then all as one table. The limits are in the crate `limits`.
pub mod Errors
pub mod Readings
pub mod Orders
pub mod Runs
