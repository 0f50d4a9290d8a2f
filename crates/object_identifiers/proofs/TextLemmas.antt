-- A dotted text, character by character.
use Rattle.std.proofs.Common.{◌≡◌, ◌≢◌, ℕ, ◌+◌, ◌<◌, ◌≤◌, List, length, get_or, drop, refl, add-one, Option, Some, None, Ok, Err}
use Rattle.std.proofs.Math.Seq.{drop-cons}
use Rattle.std.proofs.lemmas.List.{drop_all}
use Rattle.std.proofs.lemmas.Bool.{ne_eqb}
use Rattle.object_identifiers.specs.declared.fault.ObjectIdentifierFault.{ObjectIdentifierFault}
use Rattle.object_identifiers.specs.TextReading.{arcs_from, with_arc, character_after}

pub stop_passed : (arcs more : List ℕ) (number : Option ℕ) (i : ℕ) (text : List ℕ) → i < length text → get_or text i 0 ≡ 46 → with_arc arcs number ≡ Ok more → arcs_from more None (drop (i + 1) text) ≡ arcs_from arcs number (drop i text)
unfolding arcs_from
stop_passed arcs more number i text lt is w = rw (drop-cons text i 0, is, w, add-one i) refl

pub stop_refused : (arcs : List ℕ) (number : Option ℕ) (f : ObjectIdentifierFault) (i : ℕ) (text : List ℕ) → i < length text → get_or text i 0 ≡ 46 → with_arc arcs number ≡ Err f → arcs_from arcs number (drop i text) ≡ Err f
unfolding arcs_from
stop_refused arcs number f i text lt is w = rw (drop-cons text i 0, is, w) refl

pub character_passed : (arcs : List ℕ) (number : Option ℕ) (n i : ℕ) (text : List ℕ) → i < length text → get_or text i 0 ≢ 46 → character_after number (get_or text i 0) ≡ Ok n → arcs_from arcs (Some n) (drop (i + 1) text) ≡ arcs_from arcs number (drop i text)
unfolding arcs_from
character_passed arcs number n i text lt other w = rw (drop-cons text i 0, ne_eqb (get_or text i 0) 46 other, w, add-one i) refl

pub character_refused : (arcs : List ℕ) (number : Option ℕ) (f : ObjectIdentifierFault) (i : ℕ) (text : List ℕ) → i < length text → get_or text i 0 ≢ 46 → character_after number (get_or text i 0) ≡ Err f → arcs_from arcs number (drop i text) ≡ Err f
unfolding arcs_from
character_refused arcs number f i text lt other w = rw (drop-cons text i 0, ne_eqb (get_or text i 0) 46 other, w) refl

pub text_ended : (arcs : List ℕ) (number : Option ℕ) (i : ℕ) (text : List ℕ) → length text ≤ i → arcs_from arcs number (drop i text) ≡ with_arc arcs number
unfolding arcs_from
text_ended arcs number i text past = rw (drop_all i text past) refl
