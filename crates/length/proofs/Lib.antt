pub mod Algebra
pub mod Answered
pub mod Joins
