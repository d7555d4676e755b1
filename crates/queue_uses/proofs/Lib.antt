pub mod Draining
pub mod Callers
