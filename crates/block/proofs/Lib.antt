pub mod Streets
pub mod Places
pub mod Judging
