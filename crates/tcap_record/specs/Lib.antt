pub mod FaultText
pub mod Fields
pub mod Layout
pub mod Parts
pub mod RecordViews
pub mod Records
pub mod Replaying
pub mod Writing
