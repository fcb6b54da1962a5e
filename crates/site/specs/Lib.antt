pub mod Checks
pub mod Contract
pub mod Kept
pub mod State
pub mod Tables
