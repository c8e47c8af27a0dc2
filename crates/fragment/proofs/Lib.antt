pub mod Slices
pub mod Closing
pub mod Step
pub mod FoundCut
pub mod Opened
