pub mod BodyBytes
pub mod SaidMessages
mod ReturnLines
