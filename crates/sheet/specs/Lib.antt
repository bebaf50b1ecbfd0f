pub mod Sheets
pub mod Edits
pub mod Alike
pub mod Runs
