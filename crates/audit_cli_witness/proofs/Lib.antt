mod AddedLines
pub mod StateLines
mod TornLines
mod BadLines
mod FileLines
mod EndFaults
mod WrittenFiles
mod Looks
