pub mod Agreement
pub mod Dialogue
pub mod DueLapses
pub mod EngineMove
pub mod TableMove
pub mod World
