pub mod Bounded
pub mod Limits
pub mod Lists
pub mod Refusals
pub mod Values
