pub mod Calls
pub mod Image
pub mod Moments
pub mod View
pub mod Window
