pub mod Placed
pub mod Asked
