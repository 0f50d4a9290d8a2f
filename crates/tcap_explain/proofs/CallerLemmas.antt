-- What the crates above cite: where a message's elements lie. Declares nothing.
pub use Rattle.tcap_explain.proofs.ListedLemmas.{indefinite-listed}
pub use Rattle.tcap_explain.proofs.WalkLemmas.{head_from}
