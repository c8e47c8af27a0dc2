pub mod Digits
pub mod Added
pub mod Begun
pub mod Written
pub mod Laws
