pub mod Filling
pub mod Bodies
pub mod Framing
pub mod Readings
pub mod Runs
pub mod Replies
pub mod GivingBack
