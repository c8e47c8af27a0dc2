pub mod Differences
pub mod ZonesMended
pub mod ZoneMended
pub mod ZonesInTurn
pub mod PositionsListed
pub mod Answers
