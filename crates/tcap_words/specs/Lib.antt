pub mod Canonical
pub mod ComponentText
pub mod DialogueText
pub mod Show
pub mod Spelling
pub mod Text
pub mod Verdict
pub mod Writing
