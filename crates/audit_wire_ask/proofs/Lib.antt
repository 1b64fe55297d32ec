pub mod Conversations
pub mod Exports
pub mod KeptCommitments
pub mod EventLines
pub mod TakenLines
pub mod PrintedAnswers
pub mod SentLines
pub mod Failures
pub mod PutFiles
pub mod FailedExports
mod OutputFailures
pub mod LongLines
pub mod ReadWhole
mod OneEntry
mod OlderNodes
pub mod NearRefusals
pub mod KeptKeys
