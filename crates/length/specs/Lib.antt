pub mod Kind
pub mod Kinds
pub mod Join
pub mod Theorems
