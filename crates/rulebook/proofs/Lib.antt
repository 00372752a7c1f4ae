pub mod Chapters
pub mod First
