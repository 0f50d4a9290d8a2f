use Rattle.std.proofs.Common.{sym, subst}
use Rattle.std.proofs.lemmas.Result.{err_from_is_err_and}
use Rattle.tcap_pdu.specs.DialogueSpelling.{SpellsDialogue}
use Rattle.tcap_pdu.specs.DialogueViews.{pdu_value}
use Rattle.tcap_pdu.proofs.WriteAgreement.{length_told, fault_told, context_within, short_within}
use Rattle.tcap_pdu.proofs.WrittenSpelling.{written_spells}
use Rattle.tcap_pdu.proofs.dialogue_pdu.write.write_dialogue.Goals as goal

pub returns-in_err-len-clause-err : goal.returns-in_err-len-clause-err
returns-in_err-len-clause-err g c =
    let p = err_from_is_err_and c.from_residual.result c.from_residual.ensures.1 in
    rw (p.1, p.2) (fault_told (pdu_value c.args.pdu.now) c.in_err-len.field-0.0 c.in_err-len.ensures)

pub spell_portion-requires-clause-context : goal.spell_portion-requires-clause-context
spell_portion-requires-clause-context g c = context_within (pdu_value c.args.pdu.now) (length_told (pdu_value c.args.pdu.now) c.in_ok-len.len c.in_ok-len.ensures).0

pub spell_portion-requires-clause-short : goal.spell_portion-requires-clause-short
spell_portion-requires-clause-short g c = short_within (pdu_value c.args.pdu.now) (length_told (pdu_value c.args.pdu.now) c.in_ok-len.len c.in_ok-len.ensures).0

pub returns-clause-ok : goal.returns-clause-ok
returns-clause-ok g c = ((length_told (pdu_value c.args.pdu.now) c.in_ok-len.len c.in_ok-len.ensures).0, c.in_ok-spell_portion.ensures)

pub returns-clause-spelled : goal.returns-clause-spelled
returns-clause-spelled g c =
    let p = pdu_value c.args.pdu.now in
    subst (SpellsDialogue p) (sym c.in_ok-spell_portion.ensures) (written_spells p (length_told p c.in_ok-len.len c.in_ok-len.ensures).0 c.requires)

pub returns-in_err-spell_portion-clause-err : goal.returns-in_err-spell_portion-clause-err
returns-in_err-spell_portion-clause-err g c =
    let p = err_from_is_err_and c.from_residual-in_err-spell_portion.result c.from_residual-in_err-spell_portion.ensures.1 in
    rw (p.1, p.2) (length_told (pdu_value c.args.pdu.now) c.in_ok-len.len c.in_ok-len.ensures).0
