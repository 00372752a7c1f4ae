-- What the proofs of the entries cite.
pub mod Asking
pub mod Root
pub mod Sound
pub mod Counting
pub mod Ended
pub mod Refusing
pub mod Executing
pub mod Entries
