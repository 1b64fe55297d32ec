pub mod KeyFiles
mod StartFiles
pub mod Blank
pub mod Sectors
pub mod OpenedStore
mod Witnessed
mod OtherLogs
