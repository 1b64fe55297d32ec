pub mod Arguments
pub mod Faults
pub mod Rounds
pub mod Served
pub mod Words
pub mod Carried
pub mod WatchedLines
