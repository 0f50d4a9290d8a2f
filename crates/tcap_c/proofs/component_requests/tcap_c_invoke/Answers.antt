use Rattle.std.proofs.Common.{rules, ◌≡◌, ◌∙◌, w32}
use Rattle.std.specs.Option.{option_map}
use Rattle.std.proofs.lemmas.Int.{to_z-of_z}
use Rattle.tcap_primitives.specs.RequestViews.{invoke_view}
use Rattle.tcap_c.specs.Arguments.{invoke_of}
use Rattle.tcap_c.proofs.ArgumentLemmas.{if_read, none_read}
use Rattle.tcap_c.proofs.component_requests.tcap_c_invoke.Goals as goal

pub returns-clause-bad : goal.returns-clause-bad
returns-clause-bad c =
    let id = to_z-of_z w32 c.args.invoke_id c.ranges.invoke_id in
    let linked = to_z-of_z w32 c.args.linked_id c.ranges.linked_id in
    let class = to_z-of_z w32 c.args.op_class c.ranges.op_class in
    let kind = to_z-of_z w32 c.args.code_kind c.ranges.code_kind in
    let number = to_z-of_z w32 c.args.local c.ranges.local in
    let read : option_map invoke_view c.invoke_of.result ≡ invoke_of c.args.invoke_id c.args.linked_id c.args.op_class c.args.code_kind c.args.local c.args.global.now c.args.parameter.now c.args.timeout_ms =
    c.invoke_of.ensures ∙ (λ i. invoke_of (id i) (linked i) (class i) (kind i) (number i) c.args.global.now c.args.parameter.now c.args.timeout_ms) in
    λ none. absurd (none_read invoke_view _ _ _ read c.in-Some.is none)

pub returns-clause-taken : goal.returns-clause-taken
returns-clause-taken c =
    let id = to_z-of_z w32 c.args.invoke_id c.ranges.invoke_id in
    let linked = to_z-of_z w32 c.args.linked_id c.ranges.linked_id in
    let class = to_z-of_z w32 c.args.op_class c.ranges.op_class in
    let kind = to_z-of_z w32 c.args.code_kind c.ranges.code_kind in
    let number = to_z-of_z w32 c.args.local c.ranges.local in
    let read : option_map invoke_view c.invoke_of.result ≡ invoke_of c.args.invoke_id c.args.linked_id c.args.op_class c.args.code_kind c.args.local c.args.global.now c.args.parameter.now c.args.timeout_ms =
    c.invoke_of.ensures ∙ (λ i. invoke_of (id i) (linked i) (class i) (kind i) (number i) c.args.global.now c.args.parameter.now c.args.timeout_ms) in
    if_read invoke_view _ _ _ _ read c.in-Some.is (λ is_open. record {
      answer = c.invoke-answer.result;
      number = c.write_number.ensures.status;
      writes = c.write_number.ensures.written;
      moves = search rules;
      stands = search rules;
    })
