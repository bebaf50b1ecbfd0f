pub mod Scanning
pub mod Checks
pub mod Small
pub mod FewEntries
pub mod LawfulOrders
