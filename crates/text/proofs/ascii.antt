-- What the proofs of `ascii` cite.
mod Runs
