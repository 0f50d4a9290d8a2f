-- The lines of a text, and the words of a line.
use Rattle.std.proofs.Common.{◌≡◌, ◌-◌, ◌<◌, ℕ, Bool, true, false, List, [], ◌∷◌, ◌++◌, length, take, map, Option, Some, None, MatchOption, refl, sym, ap, ◌∙◌, arith, suc, if◌then◌else◌}
use Rattle.std.specs.Prelude.{◌==◌}
use Rattle.ber_core.specs.Place.{Slice}
use Rattle.tcap_play.specs.Pieces.{pieces, pieces_left, with_octet}
use Rattle.std.specs.declared.vec.Vec.{Vec}
use Rattle.tcap_stories.specs.Views.{texts_of}
use Rattle.tcap_stories.specs.Outputs.{outputs_in, told}

-- the first piece of octets, and those behind it
pub cut : (mark : ℕ) (octets first : List ℕ) (more : Option Slice) → MatchOption more (pieces mark octets ≡ first ∷ []) (λ rest. pieces mark octets ≡ first ∷ pieces mark rest.now) → pieces mark octets ≡ first ∷ pieces_left mark more
cut mark octets first None e = e
cut mark octets first (Some rest) e = e

some_with : (octet : ℕ) (ps : List (List ℕ)) → 0 < length (with_octet octet ps)
some_with octet [] = omega arith
some_with octet (p ∷ ps) = omega arith

-- there is a piece
pub some_piece : (mark : ℕ) (octets : List ℕ) → 0 < length (pieces mark octets)
unfolding pieces
some_piece mark [] = omega arith
some_piece mark (octet ∷ octets) = go (octet == mark) where
  go : (b : Bool) → 0 < length (if b then [] ∷ pieces mark octets else with_octet octet (pieces mark octets))
  go true = omega arith
  go false = some_with octet (pieces mark octets)

-- all pieces but the last
abbrev pub but_last : List (List ℕ) → List (List ℕ)
but_last ps = take (length ps - 1) ps

one_less : (first p : List ℕ) (ps : List (List ℕ)) → length (first ∷ (p ∷ ps)) - 1 ≡ suc (length (p ∷ ps) - 1)
one_less first p ps = omega arith

next_piece : (first : List ℕ) (ps : List (List ℕ)) → 0 < length ps → but_last (first ∷ ps) ≡ first ∷ but_last ps
next_piece first [] some = absurd (omega (arith, some))
next_piece first (p ∷ ps) some = ap (λ n. take n (first ∷ (p ∷ ps))) (one_less first p ps)

-- the first output of a text, and those behind it
pub next_output : (text first rest : List ℕ) → pieces 10 text ≡ first ∷ pieces 10 rest → outputs_in text ≡ told first ∷ outputs_in rest
next_output text first rest e = ap (λ ps. map told (but_last ps)) e ∙ ap (map told) (next_piece first (pieces 10 rest) (some_piece 10 rest))

module _ {A : Type 0} where
  texts-more : (old : List (Vec ℕ A)) (t : Vec ℕ A) (outputs : List (List ℕ)) → texts_of (old ++ t ∷ []) ++ outputs ≡ texts_of old ++ (t.items ∷ outputs)
  texts-more [] t outputs = refl
  texts-more (x ∷ xs) t outputs = ap (λ r. x.items ∷ r) (texts-more xs t outputs)

  -- the first output of these lines was kept
  pub kept_more : (old new : List (Vec ℕ A)) (t : Vec ℕ A) (lines first more : List ℕ) → new ≡ old ++ t ∷ [] → t.items ≡ told first → pieces 10 lines ≡ first ∷ pieces 10 more
      → texts_of new ++ outputs_in more ≡ texts_of old ++ outputs_in lines
  kept_more old new t lines first more added is cuts =
      ap (λ v. texts_of v ++ outputs_in more) added
      ∙ (texts-more old t (outputs_in more)
      ∙ (ap (λ o. texts_of old ++ (o ∷ outputs_in more)) is ∙ ap (λ o. texts_of old ++ o) (sym (next_output lines first more cuts))))
