pub mod Units
pub mod Fewest
pub mod BlankMap
pub mod PiecesFit
pub mod MapDrawn
pub mod Judged
pub mod NoneSuits
