pub mod FreeAhead
pub mod SpansLeft
