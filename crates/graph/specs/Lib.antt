pub mod Nodes
pub mod Members
pub mod Steps
pub mod Heaviest
pub mod Settling
