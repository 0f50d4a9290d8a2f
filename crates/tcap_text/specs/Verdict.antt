-- The verdict on bytes.
pub use Rattle.tcap_words.specs.Verdict.{message_of, verdict_of, is_good}
