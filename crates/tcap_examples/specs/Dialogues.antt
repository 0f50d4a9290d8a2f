pub mod Played
pub mod Refused
