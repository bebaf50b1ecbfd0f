pub mod LawfulSheet
pub mod Tables
pub mod Checks
pub mod Searching
