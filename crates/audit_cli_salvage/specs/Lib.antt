pub mod FoundSteps
pub mod Pieces
pub mod SalvageWords
pub mod SalvagedFiles
pub mod SalvagedText
pub mod Searched
