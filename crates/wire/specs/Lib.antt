pub mod Limits
pub mod Wires
