pub mod KeyLines
pub mod ChosenKeys
pub mod LinkedSteps
pub mod SameSealedEntries
pub mod SpanWords
pub mod StartLines
pub mod MatchedSteps
pub mod TakenKeys
