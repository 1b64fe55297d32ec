pub mod Faults
pub mod Frames
pub mod Dates
pub mod Messages
pub mod ServerCalls
pub mod Dialing
