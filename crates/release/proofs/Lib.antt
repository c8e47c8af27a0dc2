pub mod ListedVerdict
pub mod Answers
