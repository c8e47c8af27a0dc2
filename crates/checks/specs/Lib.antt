pub mod Words
pub mod Sums
pub mod Columns
pub mod Cross
pub mod Maps
pub mod Laws
