pub mod Whole
pub mod SameBytes
pub mod Answers
pub mod Choice
pub mod Over
pub mod Middle
pub mod Laws
