pub mod Decimal
pub mod Text
pub mod Parts
pub mod Laws
