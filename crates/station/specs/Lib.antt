pub mod Station
pub mod Laws
