pub mod Tables
pub mod Rules
pub mod Defaults
pub mod Lawful
-- What the code goes by. No public contract cites it.
pub mod Marking
pub mod ByTable
