use Rattle.std.proofs.Common.{refl, ◌∙◌, sym}
use Rattle.ber_core.specs.Views.{parts}
use Rattle.tcap_pdu.proofs.PlaceSteps.{frames-placed, frame-read}
use Rattle.tcap_pdu.proofs.frame.read.split_frame.Goals as goal

pub returns-clause-place : goal.returns-clause-place
returns-clause-place c =
    let e = c.in-Some.element in
    frames-placed c.read_content.result _ c.in-Some-message_type.kind (parts e) e.content c.args.bytes (sym c.message_type.ensures ∙ c.in-Some-message_type.is) c.read_content.ensures.value refl c.in-Some.ensures.inside c.read_content.ensures.place

pub returns-clause-value : goal.returns-clause-value
returns-clause-value c =
    frame-read c.read_content.result c.args.bytes.now (parts c.in-Some.element) c.in-Some-message_type.kind (sym c.in-Some.ensures.value) (sym c.message_type.ensures ∙ c.in-Some-message_type.is) c.read_content.ensures.value
