pub mod HoleBits
pub mod Picked
