pub mod Faults
pub mod Moments
pub mod Gives
pub mod Lives
pub mod Fitting
pub mod Promise
pub mod Claims
pub mod Examples
