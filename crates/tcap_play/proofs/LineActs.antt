-- A line that is done by the number of its words.
use Rattle.std.proofs.Common.{◌≡◌, ℕ, Bool, List, Option, Result, IfOk, subst}
use Rattle.tcap_play.specs.PlayViews.{ActsOn}
use Rattle.tcap_play.specs.ScriptLine.{ScriptLine}
use Rattle.tcap_play.specs.declared.station.Station.{Station}

-- what was done for a line was done for the same line by its words
pub acts_as : {A E : Type 0} (r : Result Bool E) (line other : Option ScriptLine) (a b a' b' : Station A) (before after : List ℕ) → line ≡ other
    → IfOk r (λ done. ActsOn line done a b a' b' before after) → IfOk r (λ done. ActsOn other done a b a' b' before after)
acts_as r line other a b a' b' before after same done =
    subst (λ l. IfOk r (λ done. ActsOn l done a b a' b' before after)) same done
