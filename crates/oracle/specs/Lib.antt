pub mod States
pub mod Looks
