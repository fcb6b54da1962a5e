pub mod Slots
pub mod Tables
pub mod Votes
pub mod Kept
pub mod Limits
pub mod Means
pub mod Laws
pub mod Soundness
