mod ReportEnds
mod KindWords
pub mod Lines
pub mod SecondPass
mod TextReports
mod OpenedEntries
