pub mod Number
pub mod Stored
pub mod Calls
pub mod Laws
