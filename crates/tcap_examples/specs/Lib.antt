pub mod Computing
pub mod Dialogues
pub mod Histories
pub mod Nets
pub mod Statements
pub mod Values
pub mod Wrong
