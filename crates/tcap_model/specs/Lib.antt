pub mod Histories
pub mod Invocations
pub mod Procedures
pub mod Replies
pub mod Statements
pub mod Table
pub mod Words
