pub mod Frame
pub mod Request
pub mod View
pub mod Reply
pub mod Stream
pub mod Progress
pub mod Decoder
pub mod Filled
