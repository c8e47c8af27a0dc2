pub mod Taken
pub mod Threshold
pub mod Laws
