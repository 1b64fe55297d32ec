pub mod Images
pub mod Moments
pub mod Rows
pub mod Windows
