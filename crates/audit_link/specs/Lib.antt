pub mod Counts
pub mod Places
pub mod CountsText
pub mod OpenedEntry
pub mod Links
pub mod LinkBytes
pub mod Accepted
