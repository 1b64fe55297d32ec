pub mod Shown
pub mod FoundTexts
pub mod SearchSteps
pub mod SalvagedTexts
pub mod ProofFiles
pub mod Requests
