pub mod Questions
pub mod Table
pub mod MendTable
pub mod FormatTable
pub mod Empty
pub mod Tells
