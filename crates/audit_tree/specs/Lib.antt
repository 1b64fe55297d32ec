pub mod Frontier
pub mod Continued
pub mod History
pub mod PostOrder
pub mod Paths
pub mod Subtree
