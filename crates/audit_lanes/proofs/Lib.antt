pub mod LaneLemmas
pub mod ChMaj
pub mod Filling
