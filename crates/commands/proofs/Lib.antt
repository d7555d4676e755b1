pub mod First
pub mod Spaces
pub mod Shapes
pub mod Decided
pub mod Unique
pub mod Lettered
pub mod Shaped
