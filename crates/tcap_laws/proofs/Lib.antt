mod Births
mod BoolLemmas
pub mod CallerLemmas
mod Decisions
mod Engine
mod FarEnds
mod Isolation
mod ListLemmas
mod Peers
mod Queues
mod Receptions
mod Rows
mod Spans
mod Submission
mod Table
