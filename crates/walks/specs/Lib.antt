pub mod Streets
pub mod Walks
pub mod Runs
pub mod Rule
pub mod Trees
pub mod Legs
pub mod Claims
pub mod Examples
