-- What is kept of the groups of a set that is being executed, and what is done with it.
pub mod Spans
pub mod SpansExamples
