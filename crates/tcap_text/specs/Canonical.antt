-- The canonical form of a message, and the text of `canon`.
pub use Rattle.tcap_words.specs.Canonical.{canonical_of, canon_text_of, canon_is_good, IsHexLine}
