pub mod Limits
pub mod Lines
pub mod Logs
pub mod Meaning
pub mod Soundness
