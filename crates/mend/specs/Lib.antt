pub mod Mends
pub mod Zones
