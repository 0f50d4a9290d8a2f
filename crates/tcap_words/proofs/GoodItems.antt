-- Components that are judged while their lines are added.
use Rattle.std.proofs.Common.{◌≡◌, ℕ, ◌+◌, Bool, cond, true, false, List, [], ◌∷◌, length, ◌==◌, Result, Ok, Err, refl, is_err}
use Rattle.std.specs.List.{position_from}
use Rattle.std.proofs.lemmas.Bool.{eqb-true}
use Rattle.std.proofs.lemmas.List.{nil_from_length}
use Rattle.tcap_component.specs.ComponentFault.{FaultParts}
use Rattle.tcap_component.specs.Component.{ComponentParts}
use Rattle.tcap_component.specs.ComponentReading.{components_by, components_of}
use Rattle.tcap_words.specs.Verdict.{verdict_by_place, components_verdict, is_good}

-- whether all is good still after these, where it was so before or wasn't
unfoldable pub good_after : Bool → List (Result ComponentParts FaultParts) → Bool
good_after good [] = good
good_after good (item ∷ items) = good_after (cond (is_err item) false good) items

-- what isn't good stays so
not-good : (items : List (Result ComponentParts FaultParts)) → good_after false items ≡ false
unfolding good_after
not-good [] = refl
not-good (Ok component ∷ items) = not-good items
not-good (Err fault ∷ items) = not-good items

good-from : (place : ℕ) (items : List (Result ComponentParts FaultParts)) → good_after true items ≡ is_good (verdict_by_place (position_from is_err place items))
unfolding good_after
good-from place [] = refl
good-from place (Ok component ∷ items) = good-from (place + 1) items
good-from place (Err fault ∷ items) = not-good items

-- components are good exactly where none is faulty
pub good-components : (content : List ℕ) → good_after true (components_of content) ≡ is_good (components_verdict content)
good-components content = good-from 0 (components_of content)

-- no components are good
pub good-none : (content : List ℕ) → (length content == 0) ≡ true → true ≡ is_good (components_verdict content)
unfolding components_by
good-none content empty = rw (nil_from_length content (eqb-true (length content) 0 empty)) refl
