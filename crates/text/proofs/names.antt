-- What the proofs of `names` cite.
mod Spelled
