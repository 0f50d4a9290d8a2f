-- The texts of `show` and `check`.
pub use Rattle.tcap_words.specs.Show.{show_text_of, show_is_good, check_text_of}
