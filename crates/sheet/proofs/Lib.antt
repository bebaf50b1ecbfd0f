pub mod Same
pub mod Restored
pub mod Outcomes
pub mod Released
pub mod SwapChecks
pub mod Running
pub mod Anew
pub mod Telling
