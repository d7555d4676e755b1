pub mod Marks
pub mod Trees
pub mod Runs
pub mod Limited
pub mod Kept
pub mod Candidates
