pub mod Mended
pub mod Table
pub mod Laws
