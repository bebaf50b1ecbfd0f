pub mod Choices
pub mod Rules
pub mod Files
pub mod Held
pub mod Reading
pub mod Writing
