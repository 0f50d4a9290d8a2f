-- Where a play starts.
use Rattle.std.proofs.Common.{◌≡◌, ◌∙◌, ℕ, Bool, List, [], refl, sym, ap}
use Rattle.tcap_model.specs.Table.World.{StandsAt}
use Rattle.tcap_play.specs.Play.{Printed, behind, history_of, not_begun}
use Rattle.tcap_play.specs.PlayViews.{IsAt}
use Rattle.tcap_play.specs.Sides.{Engine}
use Rattle.tcap_play.specs.declared.station.Station.{Station}

module _ {A : Type 0} where
  -- both sides stand at the play before the first line
  pub starts : (idle_ms : ℕ) (a b : Station A) → ((which : Engine) → StandsAt (history_of which (not_begun idle_ms)) a.engine)
      → ((which : Engine) → StandsAt (history_of which (not_begun idle_ms)) b.engine)
      → a.sent.items ≡ [] → b.sent.items ≡ [] → IsAt (not_begun idle_ms) a b
  starts idle_ms a b stands_a stands_b none_a none_b = record {
    a_stands = stands_a Engine.a;
    b_stands = stands_b Engine.b;
    a_sent = rw none_a refl;
    b_sent = rw none_b refl;
  }

-- where nothing was printed before, all is printed now
pub all-printed : (before : List ℕ) (printed : Printed) (text : List ℕ) (good : Bool) → before ≡ []
    → behind before printed ≡ record { text = text; good = good } → printed ≡ record { text = text; good = good }
all-printed before printed text good none is = sym (ap (λ t. behind t printed) none) ∙ is
