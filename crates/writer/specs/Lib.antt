pub mod Redraw
pub mod Parts
pub mod Listed
pub mod Edited
pub mod PartsLeft
