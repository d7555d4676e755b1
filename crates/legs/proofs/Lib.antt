pub mod Cells
pub mod Spreads
pub mod Turns
