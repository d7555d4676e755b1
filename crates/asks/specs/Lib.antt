pub mod Redone
pub mod Held
pub mod Index
pub mod Handed
pub mod Reached
pub mod Bounded
pub mod Claims
pub mod Examples
