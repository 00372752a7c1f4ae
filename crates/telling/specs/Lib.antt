-- How an error record is read from its words, and how its path is told.
pub mod Told
