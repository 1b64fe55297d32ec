pub mod Lines
pub mod Reaching
pub mod Feeding
pub mod Inputs
pub mod Pieces
