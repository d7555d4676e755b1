pub mod Raising
pub mod Remarking
