pub mod State
pub mod StateFaults
pub mod Alarm
pub mod Beginning
pub mod Locking
pub mod Looking
pub mod Looks
