pub mod Lived
pub mod Fitting
pub mod Following
pub mod Once
pub mod Existing
pub mod Asking
pub mod Twice
pub mod Examples
