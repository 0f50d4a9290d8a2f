use Rattle.std.proofs.Common.{◌∙◌, sym, subst}
use Rattle.std.proofs.lemmas.Result.{IfOk-weaker}
use Rattle.tcap_pdu.specs.FrameViews.{message}
use Rattle.tcap_words.specs.Canonical.{IsHexLine}
use Rattle.tcap_words.proofs.CallerLemmas.{read-cause, text_good, flag_good, text_bad, flag_bad, bad_not_good, canonical_of-read}
use Rattle.tcap_text.proofs.canon.canon_text.Goals as goal

pub frame_text-requires : goal.frame_text-requires
frame_text-requires g c = read-cause c.args.bytes.now (message c.in-Ok.frame) c.in-Ok.ensures

pub returns-then-is_good-clause-text : goal.returns-then-is_good-clause-text
returns-then-is_good-clause-text g c = IfOk-weaker c.frame_text.result _ _ (λ s h. h ∙ text_good c.args.bytes.now (message c.in-Ok.frame) c.judge_message-verdict.result c.is_good.result c.in-Ok.ensures c.judge_message-verdict.ensures c.is_good.ensures c.if-is_good.true) c.frame_text.ensures.text

pub returns-then-is_good-clause-good : goal.returns-then-is_good-clause-good
returns-then-is_good-clause-good g c = IfOk-weaker c.frame_text.result _ _ (λ s h. h ∙ flag_good c.args.bytes.now (message c.in-Ok.frame) c.judge_message-verdict.result c.is_good.result c.in-Ok.ensures c.judge_message-verdict.ensures c.is_good.ensures c.if-is_good.true) c.frame_text.ensures.good

pub returns-in-Err-clause-text : goal.returns-in-Err-clause-text
returns-in-Err-clause-text g c = IfOk-weaker c.verdict_text-in-Err.result _ _ (λ s h. h ∙ text_bad c.args.bytes.now c.in-Err.verdict c.in-Err.ensures) c.verdict_text-in-Err.ensures.text

pub returns-in-Err-clause-good : goal.returns-in-Err-clause-good
returns-in-Err-clause-good g c = IfOk-weaker c.verdict_text-in-Err.result _ _ (λ s h. h ∙ flag_bad c.args.bytes.now c.in-Err.verdict c.in-Err.ensures) c.verdict_text-in-Err.ensures.good

pub returns-then-is_good-clause-hex : goal.returns-then-is_good-clause-hex
returns-then-is_good-clause-hex g c =
    let form = canonical_of-read c.args.bytes.now (message c.in-Ok.frame) c.in-Ok.ensures in
    IfOk-weaker c.frame_text.result _ _ (λ s h good. subst (IsHexLine s.text.items) (sym form) (h good)) c.frame_text.ensures.hex

pub returns-in-Err-clause-hex : goal.returns-in-Err-clause-hex
returns-in-Err-clause-hex g c = IfOk-weaker c.verdict_text-in-Err.result _ _ (λ s h good. absurd (bad_not_good c.args.bytes.now c.in-Err.verdict s.good c.in-Err.ensures h good)) c.verdict_text-in-Err.ensures.good
