pub mod Operation
pub mod TwoEngines
