pub mod Rooms
pub mod Telling
pub mod Same
pub mod Joining
pub mod Opening
pub mod Once
