pub mod Text
pub mod Lines
pub mod Words
pub mod Numbers
pub mod Parts
pub mod Grammar
pub mod Outcome
pub mod Reading
