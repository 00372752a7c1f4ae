-- What the code of a run says of a place in the response, and of how a part of a run ends.
pub mod Paths
pub mod Gives
pub mod Settled
