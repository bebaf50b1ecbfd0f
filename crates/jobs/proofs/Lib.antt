pub mod Answered
pub mod Files
pub mod InOrder
pub mod Lawful
pub mod NotRefused
