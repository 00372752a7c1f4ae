pub mod Amounts
pub mod Parts
pub mod Digits
