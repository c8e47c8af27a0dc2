pub mod CutOff
pub mod BlockEdge
