pub mod Links
pub mod Streets
pub mod Judging
