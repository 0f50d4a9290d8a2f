use Rattle.std.proofs.Common.{◌≡◌, ◌++◌, ◌∙◌, OnOk, codes, decimal, refl, subst, string_bytes}
use Rattle.tcap_lines.specs.FaultNames.{fault_name_of}
use Rattle.tcap_lines.specs.LineFaults.{or_empty}
use Rattle.tcap_living.proofs.Appended.{behind}
use Rattle.tcap_living.proofs.json_text.add_fault.Goals as goal

pub returns : goal.returns
returns g c =
    subst (λ n. OnOk c.add_fault_name.result (string_bytes c.add_fault_name.new.text ≡ string_bytes c.args.text.now ++ ((codes "refused\",\"fault\":" ++ decimal n) ++ (codes ",\"name\":\"" ++ (or_empty (fault_name_of n) ++ codes "\"")))))
    (c.from-number.ensures ∙ c.number.ensures)
    (behind c.add_fault_name.result _ _ _ _ _ _ c.in_ok-add_member.ensures c.add_fault_name.ensures refl)
