pub mod Asked
pub mod DialogueValues
pub mod Hex
pub mod HistoryWords
pub mod Peer
pub mod Told
