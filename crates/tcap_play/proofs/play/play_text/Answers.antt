use Rattle.std.proofs.Common.{◌∙◌, ap, sym}
use Rattle.tcap_play.specs.Play.{Printed, not_begun, printed_behind}
use Rattle.tcap_play.proofs.PlayStarts.{all-printed, starts}
use Rattle.tcap_play.proofs.play.play_text.Goals as goal

pub returns-clause-text : goal.returns-clause-text
returns-clause-text g c =
    let idle_ms = c.in_ok-opening.opening.idle_ms in
    let at = starts idle_ms c.begun-a.result c.begun-b.result c.begun-a.ensures.stands c.begun-b.ensures.stands c.begun-a.ensures.sent c.begun-b.ensures.sent in
    let all = sym (ap printed_behind c.in_ok-opening.ensures.opening) ∙ all-printed _ _ _ _ c.new-text.ensures.bytes (c.in_ok-good.ensures (not_begun idle_ms) at) in
    ap (λ v. v.items) c.into_bytes.ensures.value ∙ sym (ap (λ (p : Printed). p.text) all)

pub returns-clause-good : goal.returns-clause-good
returns-clause-good g c =
    let idle_ms = c.in_ok-opening.opening.idle_ms in
    let at = starts idle_ms c.begun-a.result c.begun-b.result c.begun-a.ensures.stands c.begun-b.ensures.stands c.begun-a.ensures.sent c.begun-b.ensures.sent in
    let all = sym (ap printed_behind c.in_ok-opening.ensures.opening) ∙ all-printed _ _ _ _ c.new-text.ensures.bytes (c.in_ok-good.ensures (not_begun idle_ms) at) in
    sym (ap (λ (p : Printed). p.good) all)
