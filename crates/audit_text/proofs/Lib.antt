pub mod FirstLine
pub mod FieldLines
pub mod Decimal
pub mod EventWords
pub mod EventLines
pub mod KeyLine
pub mod Scripts
pub mod Refusals
pub mod Taking
pub mod Writing
mod CutShort
pub mod ReadingBack
mod SeenLetters
pub mod TextEvents
mod JsonTokens
pub mod ReadNumbers
mod NumberedLines
mod JsonLines
