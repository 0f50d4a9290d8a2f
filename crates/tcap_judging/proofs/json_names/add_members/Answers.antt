use Rattle.std.proofs.Common.{◌≡◌, ◌++◌, ◌∙◌, ap, append_assoc, codes, map, subst}
use Rattle.std.specs.Prelude.{OnOk, string_bytes}
use Rattle.object_identifiers.specs.Contents.{dotted_at}
use Rattle.tcap_judging.specs.JsonNames.{json_dotted}
use Rattle.tcap_judging.specs.NameViews.{named_view}
use Rattle.tcap_judging.proofs.json_names.add_members.Goals as goal

pub returns : goal.returns
returns g c =
    let was = string_bytes c.args.text.now in
    let opening = codes ",\"context\":\"" in
    let members = json_dotted (map named_view c.args.names.now) c.args.context.now (dotted_at c.args.context.now) in
    let opened : string_bytes c.push_str.new.self ≡ was ++ opening = c.in_ok-push_str.ensures.bytes in
    let same : string_bytes c.push_str.new.self ++ members ≡ was ++ (opening ++ members) = ap (λ t. t ++ members) opened ∙ append_assoc was opening members in
    subst (λ t. OnOk c.add_dotted.result (string_bytes c.add_dotted.new.text ≡ t)) same c.add_dotted.ensures
