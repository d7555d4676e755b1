pub mod Closed
pub mod Tables
pub mod Chains
pub mod Bounds
pub mod Candidates
pub mod Kept
pub mod Turns
