pub mod Tests
pub mod Below
pub mod Digits
pub mod Bytes
pub mod Stored
pub mod BitRuns
pub mod Words
pub mod Xor
