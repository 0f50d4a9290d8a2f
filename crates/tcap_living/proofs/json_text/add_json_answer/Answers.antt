use Rattle.std.proofs.Common.{◌≡◌, ◌++◌, OnOk, codes, decimal, subst, string_bytes}
use Rattle.tcap_living.specs.JsonText.{json_last}
use Rattle.tcap_living.proofs.json_text.add_json_answer.Goals as goal

pub returns-in-NewDialogue : goal.returns-in-NewDialogue
returns-in-NewDialogue g c =
    rw c.in-NewDialogue.is
    (subst (λ dialogue. OnOk c.add_made.result (string_bytes c.add_made.new.text ≡ string_bytes c.args.text.now ++ json_last c.args.number (codes "new\",\"dialogue\":" ++ decimal dialogue)))
    c.from.ensures c.add_made.ensures)
