pub mod Layout
pub mod Chains
pub mod Refusal
pub mod Laws
pub mod Meaning
