pub mod ListRules
pub mod ListRoom
pub mod Demand3
pub mod ZonesTried
pub mod Claims
pub mod Refusals
pub mod EditTable
pub mod EditRules
