pub mod Finds
pub mod Lowests
pub mod Scans
pub mod Verdicts
