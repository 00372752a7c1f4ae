-- The tables that a table file holds, and where a line ends.
pub mod Held
pub mod Lines
