pub mod Wrote
pub mod WritingExamples
