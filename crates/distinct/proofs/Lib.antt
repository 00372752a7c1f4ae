pub mod Differ
pub mod Chains
pub mod HashLaws
pub mod Kept
pub mod Plain
pub mod Marked
