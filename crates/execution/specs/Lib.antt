-- What each function of the cycle rests on, and what it ensures.
pub mod Ends
pub mod Walk
