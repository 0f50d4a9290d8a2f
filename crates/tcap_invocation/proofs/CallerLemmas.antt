-- What the crates above cite: laws of this crate's definitions. Declares nothing.
pub use Rattle.tcap_invocation.proofs.InsertionLemmas.{Ahead, Ordered, all_put, all_in_order, total, total_put, total_in_order, length-in_order, front, first_of-put, ahead_later, ordered_put, ordered_in_order, one_order}
pub use Rattle.tcap_invocation.proofs.OrderLemmas.{AllAbove-remove_entry, AreInOrder-remove_entry, AreInOrder-at_stage, AreInOrder-filter, AreInOrder-sent_rows, AreInOrder-push, entry_at-sent}
pub use Rattle.tcap_invocation.proofs.KeptLemmas.{AllBelow-remove_entry, AllBelow-set_value, AllBelow-filter, AllBelow-sent_rows, AllBelow-push, AllBelow-more, AllBelow-lookup, AllBelow-freed, AllBelow-after_received, AllBelow-after_reject, AllBelow-after_give_up, AllBelow-after_free_wait, AllBelow-after_lapse_one, AllBelow-after_lapse, AllBelow-after_free_due, AllBelow-after_sent, AllBelow-after_close_one, AllBelow-added, ended_at-after_received, ended_at-after_reject}
pub use Rattle.tcap_invocation.proofs.TellingLemmas.{told_at-after_lapse_one, after_lapse-after_lapse_one, after_lapse-none, ended_at-after_close_one}
