pub mod Literal
pub mod Decimal
pub mod Escape
pub mod TokenExamples
