pub mod Cells
pub mod Every
pub mod Same
