pub mod ZonesRead
pub mod LinesOf
pub mod Remains
pub mod HeldLines
pub mod HeldZones
pub mod OwnersSome
pub mod ZonesTouching
