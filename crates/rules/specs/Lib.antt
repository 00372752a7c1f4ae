-- What rows have to obey: what every table has in common; strings and names; then each table, in reading order.
pub mod Rows
pub mod Strings
pub mod Names
pub mod Schema
pub mod Document
pub mod Json
pub mod Answers
-- What a search keeps while it goes on. No public contract cites it.
pub mod Marks
