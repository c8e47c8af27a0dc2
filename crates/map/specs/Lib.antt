pub mod Checked
pub mod Accepted
