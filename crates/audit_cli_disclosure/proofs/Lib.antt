pub mod ReadEntries
pub mod ShownSteps
pub mod PrintedChoice
pub mod SoundKeys
pub mod SealedTokens
pub mod Disclosed
pub mod Shown
pub mod WrongWords
