pub mod Absent
pub mod ZonesJudged
pub mod Answers
