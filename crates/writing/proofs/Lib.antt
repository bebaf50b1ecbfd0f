pub mod Checking
pub mod Numbers
pub mod PutTogether
pub mod LawfulJobs
pub mod FilesWritten
