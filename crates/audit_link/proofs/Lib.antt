pub mod Lines
mod OneReading
mod Said
mod Opened
mod Added
mod TwoEntries
mod Places
mod Judged
