pub mod HistoryLemmas
pub mod LimitLemmas
pub mod MarkLemmas
pub mod OutboxLemmas
pub mod RunLemmas
pub mod TakeLemmas
