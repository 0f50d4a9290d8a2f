-- Lines of octets that come one part behind the other.
use Rattle.std.proofs.Common.{◌≡◌, ◌≤◌, ◌+◌, ◌++◌, ◌∙◌, ◌==◌, ℕ, suc, Bool, true, false, List, [], ◌∷◌, length, refl, ap, arith, if◌then◌else◌}
use Rattle.std.proofs.lemmas.List.{length-append}
use Rattle.tcap_play.specs.Pieces.{lines_of, pieces, with_octet}
use Rattle.tcap_living.specs.Session.{continued}

-- pieces, and those of what follows: the last of the first and the first of the others are one
abbrev pub joined : List (List ℕ) → List (List ℕ) → List (List ℕ)
joined [] later = later
joined (piece ∷ []) later = continued piece later
joined (piece ∷ next ∷ more) later = piece ∷ joined (next ∷ more) later

-- there is a piece
abbrev HasFirst : List (List ℕ) → Type 0
HasFirst [] = ⊥
HasFirst (piece ∷ more) = Unit {0}

-- an octet before pieces
abbrev cut : Bool → ℕ → List (List ℕ) → List (List ℕ)
cut mark octet more = if mark then [] ∷ more else with_octet octet more

cut-first : (mark : Bool) (octet : ℕ) (more : List (List ℕ)) → HasFirst (cut mark octet more)
cut-first true octet more = tt
cut-first false octet [] = tt
cut-first false octet (piece ∷ more) = tt

has_first : (mark : ℕ) (octets : List ℕ) → HasFirst (pieces mark octets)
unfolding pieces
has_first mark [] = tt
has_first mark (octet ∷ octets) = cut-first (octet == mark) octet (pieces mark octets)

-- nothing before pieces
behind-nothing : (more : List (List ℕ)) → HasFirst more → more ≡ continued [] more
behind-nothing [] first = absurd first
behind-nothing (piece ∷ more) first = refl

joined-octet : (octet : ℕ) (more later : List (List ℕ)) → HasFirst later → with_octet octet (joined more later) ≡ joined (with_octet octet more) later
joined-octet octet [] [] first = absurd first
joined-octet octet [] (piece ∷ later) first = refl
joined-octet octet (piece ∷ []) [] first = absurd first
joined-octet octet (piece ∷ []) (next ∷ later) first = refl
joined-octet octet (piece ∷ next ∷ more) later first = refl

joined-first : (piece : List ℕ) (more later : List (List ℕ)) → HasFirst more → piece ∷ joined more later ≡ joined (piece ∷ more) later
joined-first piece [] later first = absurd first
joined-first piece (next ∷ more) later first = refl

cut-joined : (mark : Bool) (octet : ℕ) (more later : List (List ℕ)) → HasFirst more → HasFirst later → cut mark octet (joined more later) ≡ joined (cut mark octet more) later
cut-joined true octet more later some first = joined-first [] more later some
cut-joined false octet more later some first = joined-octet octet more later first

-- the pieces of two lists, one behind the other
pieces-append : (mark : ℕ) (octets later : List ℕ) → pieces mark (octets ++ later) ≡ joined (pieces mark octets) (pieces mark later)
unfolding pieces
pieces-append mark [] later = behind-nothing (pieces mark later) (has_first mark later)
pieces-append mark (octet ∷ octets) later =
    ap (cut (octet == mark) octet) (pieces-append mark octets later)
    ∙ cut-joined (octet == mark) octet (pieces mark octets) (pieces mark later) (has_first mark octets) (has_first mark later)

joined-held : (whole : List (List ℕ)) (held : List ℕ) (later : List (List ℕ)) → joined (whole ++ (held ∷ [])) later ≡ whole ++ continued held later
joined-held [] held later = refl
joined-held (piece ∷ []) held later = refl
joined-held (piece ∷ next ∷ whole) held later = ap (λ more. piece ∷ more) (joined-held (next ∷ whole) held later)

-- lines with more octets behind them
pub lines-behind : (octets piece : List ℕ) (whole : List (List ℕ)) (held : List ℕ) → lines_of octets ≡ whole ++ (held ∷ [])
    → lines_of (octets ++ piece) ≡ whole ++ continued held (pieces 10 piece)
lines-behind octets piece whole held are =
    pieces-append 10 octets piece ∙ ap (λ lines. joined lines (pieces 10 piece)) are ∙ joined-held whole held (pieces 10 piece)

-- no octets are one empty line
pub no-octets : lines_of [] ≡ [] ∷ []
unfolding pieces
no-octets = refl

cut-length : (mark : Bool) (octet : ℕ) (more : List (List ℕ)) → HasFirst more → length (cut mark octet more) ≤ suc (length more)
cut-length true octet more first = omega arith
cut-length false octet [] first = absurd first
cut-length false octet (piece ∷ more) first = omega arith

-- there are at most as many pieces as octets, and one
pub few-pieces : (mark : ℕ) (octets : List ℕ) → length (pieces mark octets) ≤ 1 + length octets
unfolding pieces
few-pieces mark [] = omega arith
few-pieces mark (octet ∷ octets) =
    omega (arith, cut-length (octet == mark) octet (pieces mark octets) (has_first mark octets), few-pieces mark octets)

-- fewer lines have ended than there are octets, or as many
pub few-whole : (octets : List ℕ) (whole : List (List ℕ)) (held : List ℕ) → lines_of octets ≡ whole ++ (held ∷ []) → length whole ≤ length octets
few-whole octets whole held are =
    omega (arith, few-pieces 10 octets, ap length are, length-append {A = List ℕ} whole (held ∷ []))
