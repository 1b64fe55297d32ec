pub mod Recorder
pub mod RecorderModel
pub mod RecorderLaws
