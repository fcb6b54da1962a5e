pub mod Reading
pub mod Keeping
pub mod Clipping
pub mod Entries
