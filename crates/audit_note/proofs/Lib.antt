pub mod LineParts
pub mod Notes
