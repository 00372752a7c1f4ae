pub mod Frame
pub mod Ending
pub mod Looping
pub mod Going
pub mod Entering
pub mod Beneath
pub mod Sets
pub mod Told
