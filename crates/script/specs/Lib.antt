pub mod Buffers
pub mod Bytes
pub mod Commands
pub mod Events
pub mod Numbers
pub mod Rows
pub mod Lines
pub mod Listings
