-- `Taking` and `LeafValues` are for the functions of `resolve`, `Stepping`, `Opened` and `Answers` for those of `field`; `AtField` says where the errors
-- of a completion stand, and `Told` with which outcome a function stops.
pub mod AtField
pub mod Taking
pub mod LeafValues
pub mod Stepping
pub mod Opened
pub mod Answers
pub mod Behind
pub mod ItemSteps
pub mod FieldSteps
pub mod Told
