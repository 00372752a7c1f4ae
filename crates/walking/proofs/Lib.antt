-- What the proofs of the walk cite: `Sofar` for any sequence of calls, `Items` for the items of a list, `Groups` for the groups of a set, `Plain` for
-- what needs no care, `Ended` and `Ends` for what the functions of `settle` answer, `Told` for the outcome with which a run stops; under them
-- `RunLaws`, `Filling` and `Slotted`. `PathLaws`, `Records` and `Settling` are for the proofs of this crate.
pub mod RunLaws
pub mod Sofar
pub mod Filling
pub mod Plain
pub mod Items
pub mod Slotted
pub mod Groups
pub mod Ends
pub mod Ended
pub mod Told
pub mod PathLaws
pub mod Records
pub mod Settling
