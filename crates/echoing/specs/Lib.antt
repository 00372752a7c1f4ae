pub mod Echo
pub mod Source
