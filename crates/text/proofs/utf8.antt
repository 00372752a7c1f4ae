-- What the proofs of `utf8` cite.
mod Octets
mod Sequences
pub mod Parts
mod Decoding
