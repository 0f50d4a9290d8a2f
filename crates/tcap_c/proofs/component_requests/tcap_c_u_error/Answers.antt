use Rattle.std.proofs.Common.{rules, ◌≡◌, ◌∙◌, w32}
use Rattle.std.specs.Option.{option_map}
use Rattle.std.proofs.lemmas.Int.{to_z-of_z}
use Rattle.tcap_primitives.specs.RequestViews.{error_view}
use Rattle.tcap_c.specs.Arguments.{error_of}
use Rattle.tcap_c.proofs.ArgumentLemmas.{if_read}
use Rattle.tcap_c.proofs.component_requests.tcap_c_u_error.Goals as goal

pub returns-clause-taken : goal.returns-clause-taken
returns-clause-taken c =
    let id = to_z-of_z w32 c.args.invoke_id c.ranges.invoke_id in
    let kind = to_z-of_z w32 c.args.code_kind c.ranges.code_kind in
    let number = to_z-of_z w32 c.args.local c.ranges.local in
    let read : option_map error_view c.error_of.result ≡ error_of c.args.invoke_id c.args.code_kind c.args.local c.args.global.now c.args.parameter.now =
    c.error_of.ensures ∙ (λ i. error_of (id i) (kind i) (number i) c.args.global.now c.args.parameter.now) in
    if_read error_view _ _ _ _ read c.in-Some.is (λ is_open. record {
      answer = c.error_back-answer.result;
      number = search rules;
      writes = search rules;
      moves = search rules;
      stands = search rules;
    })
