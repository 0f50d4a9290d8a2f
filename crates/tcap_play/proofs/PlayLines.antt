-- What is printed from a line on.
use Rattle.std.proofs.Common.{◌≡◌, ◌++◌, ◌+◌, ◌∙◌, ℕ, Bool, true, false, List, [], ◌∷◌, Option, Some, None, refl, sym, ap}
use Rattle.std.proofs.lemmas.List.{append_assoc, append-nil}
use Rattle.tcap_play.specs.Pieces.{is_skipped}
use Rattle.tcap_play.specs.Play.{Played, Printed, Stepped, bad_line, behind, printed_by, printed_from, step_by}
use Rattle.tcap_play.specs.PlayViews.{Does, GoesOn, IsAt}
use Rattle.tcap_play.specs.declared.station.Station.{Station}

abbrev printed_good : List ℕ → Printed
printed_good text = record { text = text; good = true }

abbrev printed_as : List ℕ → Bool → Printed
printed_as text good = record { text = text; good = good }

abbrev printed_bad : List ℕ → Printed
printed_bad text = record { text = text; good = false }

-- after the last line nothing is printed
pub ended : (text : List ℕ) (number : ℕ) (p : Played) → behind text (printed_from number p []) ≡ record { text = text; good = true }
unfolding printed_from
ended text number p = ap (λ t. printed_good t) (append-nil text)

-- a line that is skipped prints nothing
from_skipped : (number : ℕ) (p : Played) (line : List ℕ) (lines : List (List ℕ)) → is_skipped line ≡ true → printed_from number p (line ∷ lines) ≡ printed_from (number + 1) p lines
unfolding printed_from
from_skipped number p line lines is = rw is refl

-- any other prints what its step does, and then what the lines behind it do
from_step : (number : ℕ) (p : Played) (line : List ℕ) (lines : List (List ℕ)) → is_skipped line ≡ false
    → printed_from number p (line ∷ lines) ≡ printed_by number (λ q. printed_from (number + 1) q lines) (step_by p line)
unfolding printed_from
from_step number p line lines is = rw is refl

-- text before text is text
joined : (old added new : List ℕ) (later : Printed) → new ≡ old ++ added → behind old (behind added later) ≡ behind new later
joined old added new later is = ap (λ t. printed_as t later.good) (sym (append_assoc old added later.text) ∙ ap (λ t. t ++ later.text) (sym is))

module _ {A : Type 0} where
  -- the play goes on behind a line that is skipped
  pub skips : (number : ℕ) (line : List ℕ) (p : Played) (a b : Station A) (text : List ℕ) → is_skipped line ≡ true → IsAt p a b → GoesOn number line p true a b text text
  skips number line p a b text is at = (p, at, λ lines. ap (behind text) (from_skipped number p line lines is))

  -- and behind one that could be done
  pub goes : (number : ℕ) (line : List ℕ) (p : Played) (a b : Station A) (old new : List ℕ) → is_skipped line ≡ false → Does (step_by p line) true a b old new → GoesOn number line p true a b old new
  goes number line p a b old new is does = go (step_by p line) refl does where
    go : (did : Option Stepped) → step_by p line ≡ did → Does did true a b old new → GoesOn number line p true a b old new
    go None e does = absurd cc
    go (Some stepped) e does = (
      stepped.after,
      does.1.is_at,
      λ lines.
          ap (behind old) (from_step number p line lines is ∙ ap (printed_by number (λ q. printed_from (number + 1) q lines)) e)
          ∙ joined old stepped.text new (printed_from (number + 1) stepped.after lines) does.1.is_text,
    )

  -- one that can't be done ends it
  pub ends : (number : ℕ) (line : List ℕ) (p : Played) (a b : Station A) (old mid new : List ℕ) → is_skipped line ≡ false → Does (step_by p line) false a b old mid → new ≡ mid ++ bad_line number
      → (lines : List (List ℕ)) → behind old (printed_from number p (line ∷ lines)) ≡ record { text = new; good = false }
  ends number line p a b old mid new is does told lines = go (step_by p line) refl does where
    go : (did : Option Stepped) → step_by p line ≡ did → Does did false a b old mid → behind old (printed_from number p (line ∷ lines)) ≡ record { text = new; good = false }
    go None e does =
        ap (behind old) (from_step number p line lines is ∙ ap (printed_by number (λ q. printed_from (number + 1) q lines)) e)
        ∙ ap (λ t. printed_bad t) (sym (told ∙ ap (λ t. t ++ bad_line number) does.1))
    go (Some stepped) e does = absurd cc
