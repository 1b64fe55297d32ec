pub mod Lanes
pub mod States
pub mod Messages
