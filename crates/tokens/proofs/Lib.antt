-- `DecimalLaws` and `EscapeLaws` say what the two definitions give, case by case.
pub mod DecimalLaws
pub mod EscapeLaws
pub mod Chunks
