pub mod Leaf
pub mod Sizes
pub mod Held
pub mod OwnKey
pub mod Carried
pub mod PreparedStores
mod CallFaults
