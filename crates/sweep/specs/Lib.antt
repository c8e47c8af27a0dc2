pub mod Sweep
pub mod Stretch
pub mod Refusals
pub mod Laws
