pub mod Turns
pub mod Exits
