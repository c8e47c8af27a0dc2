pub mod Blank
pub mod Drawn
pub mod Table
pub mod Laws
