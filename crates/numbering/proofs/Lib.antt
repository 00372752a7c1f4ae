-- What the proofs of more than one function cite.
mod Counting
