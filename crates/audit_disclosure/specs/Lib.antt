pub mod Choosing
pub mod DisclosureText
pub mod LinkedEntries
pub mod LinkReading
pub mod Matching
pub mod ShownEntries
pub mod SameSealed
