pub mod Partners
pub mod Group
pub mod Edits
pub mod Arranged
