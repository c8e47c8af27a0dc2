pub mod Claimed
pub mod Unused
pub mod Given
pub mod Hole
pub mod Chosen
