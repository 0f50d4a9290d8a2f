-- The characters of a text that names an object identifier.
use Rattle.std.proofs.Common.{◌≡◌, ◌<◌, ◌-◌, eqb, inl, inr, ℕ, zero, suc, Bool, true, false, List, [], ◌∷◌, slice_index, refl, arith, Option, Some, None, Result, Ok, Err}
use Rattle.std.specs.Prelude.{◌&&◌, nat_le, if◌then◌else◌}
use Rattle.std.specs.Result.{result_ok}
use Rattle.std.specs.Str.{IsUtf8}
use Rattle.std.proofs.lemmas.Str.{IsUtf8-from_ascii}
use Rattle.std.proofs.lemmas.Bool.{eqb-true, leb-true}
use Rattle.ber_core.specs.Results.{◌>>=◌}
use Rattle.ber_core.proofs.CallerLemmas.{bind_read, chosen_by}
use Rattle.object_identifiers.specs.declared.fault.ObjectIdentifierFault.{ObjectIdentifierFault}
use Rattle.object_identifiers.specs.declared.fault.ObjectIdentifierFault.TheVariants.{NotANumber}
use Rattle.object_identifiers.specs.Contents.{contents_at, object_identifier_at}
use Rattle.object_identifiers.specs.TextReading.{arcs_at, arcs_from, character_after, digit_after, with_arc}

guarded : (first second : Bool) (number : Option ℕ) (digit n : ℕ) → (if first && second then digit_after number digit else Err NotANumber) ≡ Ok n → second ≡ true
guarded true true number digit n read = refl
guarded true false number digit n read = absurd cc
guarded false second number digit n read = absurd cc

-- a character of an arc is a digit
digit-ascii : (number : Option ℕ) (c n : ℕ) → character_after number c ≡ Ok n → c < 128
digit-ascii number c n read = omega (arith, leb-true c 57 (guarded (nat_le 48 c) (nat_le c 57) number (c - 48) n read))

-- all characters are below 128 where the text has arcs behind those so far
abbrev AreAscii : List ℕ → Type 0
AreAscii text = (arcs : List ℕ) (number : Option ℕ) (r : List ℕ) → arcs_from arcs number text ≡ Ok r → (i : ℕ) → slice_index text i < 128

first-ascii : (c : ℕ) (text : List ℕ) → AreAscii text → AreAscii (c ∷ text)
unfolding arcs_from
first-ascii c text later arcs number r read i =
    elim (chosen_by (eqb c 46) (with_arc arcs number >>= (λ more. arcs_from more None text)) (character_after number c >>= (λ n. arcs_from arcs (Some n) text)) (Ok r) read) [
      | inl stop ↦
          let more = bind_read (with_arc arcs number) (λ more. arcs_from more None text) r stop.1 in
          here (omega (arith, eqb-true c 46 stop.0)) (later more.0 None r more.2) i
      | inr other ↦
          let digit = bind_read (character_after number c) (λ n. arcs_from arcs (Some n) text) r other.1 in
          here (digit-ascii number c digit.0 digit.1) (later arcs (Some digit.0) r digit.2) i
    ] where
      here : c < 128 → ((i : ℕ) → slice_index text i < 128) → (i : ℕ) → slice_index (c ∷ text) i < 128
      here first behind zero = first
      here first behind (suc i) = behind i

arcs-ascii : (text : List ℕ) → AreAscii text
arcs-ascii [] = λ arcs number r read i. omega arith
arcs-ascii (c ∷ text) = first-ascii c text (arcs-ascii text)

-- what isn't text names nothing
pub unnamed : (text : List ℕ) → (IsUtf8 text → ⊥) → None ≡ result_ok (object_identifier_at text)
unnamed text lacks = go (object_identifier_at text) refl where
  go : (r : Result (List ℕ) ObjectIdentifierFault) → object_identifier_at text ≡ r → None ≡ result_ok r
  go (Ok octets) is =
      let read = bind_read (arcs_at text) contents_at octets is in
      absurd (lacks (IsUtf8-from_ascii text (arcs-ascii text [] None read.0 read.1)))
  go (Err f) is = refl
