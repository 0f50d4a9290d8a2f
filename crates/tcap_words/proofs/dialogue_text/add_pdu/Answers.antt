use Rattle.std.proofs.Common.{rules, ◌≡◌, List, ℕ, take, string_bytes, subst, sym}
use Rattle.std.specs.Str.{IsUtf8}
use Rattle.std.proofs.lemmas.Str.{IsUtf8-string_bytes}
use Rattle.tcap_words.proofs.dialogue_text.add_pdu.Goals as goal

pub cut_back-requires-clause-whole : goal.cut_back-requires-clause-whole
cut_back-requires-clause-whole g c =
    let same : take c.len-len.result (string_bytes c.add_pdu_words-added.new.text) ≡ string_bytes c.args.text.now = search rules in
    subst (λ (bytes : List ℕ). IsUtf8 bytes) (sym same) (IsUtf8-string_bytes c.args.text.now)
