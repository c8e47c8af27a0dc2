pub mod SoundZone
pub mod Remaining
pub mod HeldBy
pub mod Touching
pub mod LinesLeft
pub mod OneProof
