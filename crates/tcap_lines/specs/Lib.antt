pub mod FaultNames
pub mod FaultText
pub mod Fits
pub mod LineFaults
pub mod Misfit
pub mod Reading
pub mod Table
pub mod TableViews
