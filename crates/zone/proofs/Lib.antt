pub mod AllocBits
pub mod JudgeWalk
pub mod EntriesRead
pub mod FewFragments
