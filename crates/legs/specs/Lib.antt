pub mod Tables
pub mod Searches
pub mod Turns
