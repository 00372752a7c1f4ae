pub mod Expected
pub mod Plans
