pub mod Units
pub mod Places
pub mod RecordWritten
pub mod BlankDiscs
pub mod ZonesDrawn
pub mod MapFormatted
