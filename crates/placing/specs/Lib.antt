pub mod Codes
pub mod Edges
pub mod Graphs
pub mod Reach
pub mod Values
pub mod Sizes
pub mod Placing
