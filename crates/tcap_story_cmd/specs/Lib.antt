pub mod Command
pub mod CommandLine
pub mod Counting
pub mod Reading
pub mod Report
pub mod Run
pub mod Stories
pub mod Texts
