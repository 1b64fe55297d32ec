pub mod Differences
pub mod HashRows
pub mod Zeros
