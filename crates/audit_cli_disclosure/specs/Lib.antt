pub mod FileCalls
pub mod MadeDisclosure
pub mod Requests
pub mod SealedLines
pub mod ShownDisclosure
pub mod ShownExport
pub mod ShownReport
pub mod Words
