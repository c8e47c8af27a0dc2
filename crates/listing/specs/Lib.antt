pub mod Listed
pub mod Refusals
pub mod Laws
