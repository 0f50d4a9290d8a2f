use Rattle.std.proofs.Common.{◌∙◌, ap, refl}
use Rattle.tcap_record.specs.declared.kind.EventKind.TheVariants as kinds
use Rattle.tcap_record.specs.declared.kind.EventKind.{EventKind}
use Rattle.tcap_record.specs.Layout.{event_at, kind_fields_at}
use Rattle.tcap_record.proofs.KindSteps.{of_kind}
use Rattle.tcap_record.proofs.reading.kinds.take_fields.Goals as goal

pub returns-in-NewDialogue : goal.returns-in-NewDialogue
unfolding kind_fields_at
returns-in-NewDialogue c = ap (λ (k : EventKind). event_at k c.args.octets.now) c.in-NewDialogue.is ∙ refl

pub returns-in-Invoke : goal.returns-in-Invoke
returns-in-Invoke c = of_kind _ c.take_invoke.result c.args.octets.now c.args.kind kinds.Invoke c.in-Invoke.is c.take_invoke.ensures

pub returns-in-ResultLast : goal.returns-in-ResultLast
returns-in-ResultLast c = of_kind _ c.take_result_last.result c.args.octets.now c.args.kind kinds.ResultLast c.in-ResultLast.is c.take_result_last.ensures

pub returns-in-ResultMore : goal.returns-in-ResultMore
returns-in-ResultMore c = of_kind _ c.take_result_more.result c.args.octets.now c.args.kind kinds.ResultMore c.in-ResultMore.is c.take_result_more.ensures

pub returns-in-ErrorBack : goal.returns-in-ErrorBack
returns-in-ErrorBack c = of_kind _ c.take_error.result c.args.octets.now c.args.kind kinds.ErrorBack c.in-ErrorBack.is c.take_error.ensures

pub returns-in-Reject : goal.returns-in-Reject
returns-in-Reject c = of_kind _ c.take_reject.result c.args.octets.now c.args.kind kinds.Reject c.in-Reject.is c.take_reject.ensures

pub returns-in-Cancel : goal.returns-in-Cancel
returns-in-Cancel c = of_kind _ c.take_cancel.result c.args.octets.now c.args.kind kinds.Cancel c.in-Cancel.is c.take_cancel.ensures

pub returns-in-Uni : goal.returns-in-Uni
returns-in-Uni c = of_kind _ c.take_uni.result c.args.octets.now c.args.kind kinds.Uni c.in-Uni.is c.take_uni.ensures

pub returns-in-Begin : goal.returns-in-Begin
returns-in-Begin c = of_kind _ c.take_begin.result c.args.octets.now c.args.kind kinds.Begin c.in-Begin.is c.take_begin.ensures

pub returns-in-Continue : goal.returns-in-Continue
returns-in-Continue c = of_kind _ c.take_continue.result c.args.octets.now c.args.kind kinds.Continue c.in-Continue.is c.take_continue.ensures

pub returns-in-End : goal.returns-in-End
returns-in-End c = of_kind _ c.take_end.result c.args.octets.now c.args.kind kinds.End c.in-End.is c.take_end.ensures

pub returns-in-Abort : goal.returns-in-Abort
returns-in-Abort c = of_kind _ c.take_abort.result c.args.octets.now c.args.kind kinds.Abort c.in-Abort.is c.take_abort.ensures

pub returns-in-Bytes : goal.returns-in-Bytes
returns-in-Bytes c = of_kind _ c.take_bytes.result c.args.octets.now c.args.kind kinds.Bytes c.in-Bytes.is c.take_bytes.ensures

pub returns-in-Moment : goal.returns-in-Moment
returns-in-Moment c = of_kind _ c.take_moment.result c.args.octets.now c.args.kind kinds.Moment c.in-Moment.is c.take_moment.ensures
