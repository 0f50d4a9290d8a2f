pub mod Command
pub mod CommandLine
pub mod Refusal
pub mod Texts
