pub mod Address
pub mod Refusals
pub mod Reading
pub mod Laws
