pub mod ChecksByZone
pub mod ZonesJudged
pub mod Answers
pub mod Accepts
