-- What the proofs of `numbers` cite.
mod Parts
