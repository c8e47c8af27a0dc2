pub mod Zones
pub mod Formats
