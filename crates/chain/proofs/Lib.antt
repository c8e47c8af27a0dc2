pub mod Links
pub mod Ahead
pub mod Stands
