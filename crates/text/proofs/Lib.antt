-- What the proofs of more than one module cite.
mod Reading
