-- Tables as words in rows and columns; strings and names; then how a row of each table is read, in reading order.
pub mod Layout
pub mod Limits
pub mod Rows
pub mod Strings
pub mod Ascii
pub mod Names
pub mod Schema
pub mod Document
pub mod Json
pub mod Answers
