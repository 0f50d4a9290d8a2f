-- The lemmas that the crates above cite.
pub use Rattle.tcap_primitives.proofs.SinkLemmas.{keeps, keeps-same, since-is, since-same}
