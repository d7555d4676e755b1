pub mod Handed
pub mod Rounds
