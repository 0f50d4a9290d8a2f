use Rattle.std.proofs.Common.{rules, ◌≡◌, refl, IfSome, IfNone, ℕ, length, subst, sym, Option}
use Rattle.std.specs.Result.{result_ok}
use Rattle.tcap_pdu.specs.DialogueDue.{length_at}
use Rattle.tcap_pdu.specs.DialogueViews.{pdu_value}
use Rattle.tcap_pdu.specs.DialogueWritten.{written_dialogue, IsWritable}
use Rattle.tcap_pdu.proofs.WriteAgreement.{length_some, length_none}
use Rattle.tcap_pdu.proofs.dialogue_pdu.len.dialogue_len.Goals as goal

pub returns-clause-len : goal.returns-clause-len
returns-clause-len c =
    let p = pdu_value c.args.pdu.now in
    let told : c.ok.result ≡ result_ok (length_at p) = search rules in
    subst (λ (o : Option ℕ). IfSome o (λ n. IsWritable p × (n ≡ length (written_dialogue p)))) (sym told) (length_some p (length_at p) refl)

pub returns-clause-none : goal.returns-clause-none
returns-clause-none c =
    let p = pdu_value c.args.pdu.now in
    let told : c.ok.result ≡ result_ok (length_at p) = search rules in
    subst (λ (o : Option ℕ). IfNone o (IsWritable p → ⊥)) (sym told) (length_none p (length_at p) refl)
