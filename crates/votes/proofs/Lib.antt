pub mod Deciding
pub mod Growing
pub mod Memory
