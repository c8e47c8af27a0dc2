pub mod Carries
pub mod Totals
pub mod Sums
pub mod Agree
pub mod Changes
pub mod Vectors
