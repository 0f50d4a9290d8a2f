use Rattle.std.proofs.Common.{◌≡◌, ◌++◌, OnOk, codes, subst, string_bytes}
use Rattle.tcap_living.proofs.json_output.add_dropped.Goals as goal

pub returns : goal.returns
returns g c =
    subst (λ words. OnOk c.add_between.result (string_bytes c.add_between.new.text ≡ string_bytes c.args.text.now ++ (codes "dropped\",\"why\":\"" ++ (words ++ codes "\""))))
    c.drop_text.ensures c.add_between.ensures
