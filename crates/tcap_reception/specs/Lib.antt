pub mod PortionParts
pub mod PortionViews
pub mod StateViews
