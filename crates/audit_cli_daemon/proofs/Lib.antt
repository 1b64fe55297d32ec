pub mod Daemon
pub mod Listening
pub mod Ending
pub mod State
pub mod Carried
pub mod JudgedSources
pub mod BoundSources
mod BindFaults
