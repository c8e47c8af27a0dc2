pub mod Record
pub mod Ranges
pub mod Accepted
pub mod Version0
pub mod Answers
pub mod Places
pub mod Laws
