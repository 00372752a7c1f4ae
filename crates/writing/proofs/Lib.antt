-- The laws of writing: `WritesLaws` is what a proof about a writer cites, `Putting` and `Blocks` where it writes run by run, and `WroteLaws` where
-- only the text that was written matters. The others are what the proofs of this crate share.
pub mod WroteLaws
pub mod WritesLaws
pub mod Putting
pub mod Blocks
mod Closing
mod Rotation
mod Clearing
