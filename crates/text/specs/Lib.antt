-- What the text of a request is made of.
pub mod Grammar
pub mod Ascii
pub mod Utf8
pub mod Names
pub mod Numbers
pub mod Found
pub mod ReadingExamples
