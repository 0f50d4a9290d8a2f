use Rattle.std.proofs.Common.{◌≡◌, ◌++◌, OnOk, codes, refl, subst, string_bytes}
use Rattle.tcap_living.specs.JsonText.{json_octets}
use Rattle.tcap_living.proofs.Appended.{behind}
use Rattle.tcap_living.proofs.json_output.add_send.Goals as goal

pub returns : goal.returns
returns g c =
    subst (λ octets. OnOk c.add_octets_member-2.result (string_bytes c.add_octets_member-2.new.text ≡ string_bytes c.args.text.now ++ ((codes "send\",\"to\":" ++ json_octets octets) ++ (codes ",\"octets\":" ++ json_octets c.args.bytes.now))))
    c.octets.ensures.value
    (behind c.add_octets_member-2.result _ _ _ _ _ _ c.in_ok-add_octets_member.ensures c.add_octets_member-2.ensures refl)
