pub mod Calls
pub mod StreamSteps
pub mod Transitions
pub mod Turns
pub mod Runs
pub mod Reaching
pub mod Bound
