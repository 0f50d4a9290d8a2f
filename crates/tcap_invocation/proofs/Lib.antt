pub mod CallerLemmas
mod DueLemmas
mod ExpiryLemmas
mod FirstTimerLemmas
mod IndexingLemmas
mod FewLemmas
pub mod InsertionLemmas
pub mod KeptLemmas
pub mod LapseLemmas
mod ListLemmas
pub mod OrderLemmas
mod OverLemmas
mod QueuedLemmas
pub mod RemovalLemmas
mod SortLemmas
pub mod TellingLemmas
mod SortedLemmas
mod TiedLemmas
mod TimedLemmas
mod TimelyLemmas
mod TimerLemmas
