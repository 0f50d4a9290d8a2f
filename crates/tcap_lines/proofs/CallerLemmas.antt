-- What the crates above cite: laws of this crate's definitions. Declares nothing.
pub use Rattle.tcap_lines.proofs.FormLemmas.{all_fit, alone_told, as_long, by_count, by_name, has_form, has_form_on_side, side_told}
pub use Rattle.tcap_lines.proofs.RequestLemmas.{abort_fits, asked_fits, cancel_fits, error_fits, invoke_fits, last_fits, more_fits, reject_fits}
pub use Rattle.tcap_lines.proofs.WalkLemmas.{first_told, none_good, some_first}
pub use Rattle.tcap_lines.proofs.WordLemmas.{and_true, made_read, none_read, number_fits, octets_fit, then_read}
