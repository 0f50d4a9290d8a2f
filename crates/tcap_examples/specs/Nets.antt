pub mod Engines
pub mod Loss
pub mod Play
pub mod PlayedNets
pub mod ThreeEngines
pub mod WrongNets
