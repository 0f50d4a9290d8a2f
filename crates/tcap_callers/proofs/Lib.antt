pub mod BothLemmas
pub mod OutboxCalls
pub mod TwoCalls
