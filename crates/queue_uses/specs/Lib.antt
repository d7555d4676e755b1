pub mod Drained
pub mod Three
