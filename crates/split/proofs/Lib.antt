pub mod Sorted
pub mod Front
pub mod Picked
