-- What the crates above cite: laws of this crate's definitions. Declares nothing.
pub use Rattle.tcap_words.proofs.TextSteps.{after_one, after_two, all_three}
pub use Rattle.tcap_words.proofs.MessageSteps.{read-cause, text_good, flag_good, text_bad, flag_bad, bad_not_good, canonical_of-read}
pub use Rattle.tcap_words.proofs.CanonicalFrame.{components_fault}
pub use Rattle.tcap_words.proofs.SpelledWords.{unspelled}
