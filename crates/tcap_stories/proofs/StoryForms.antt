-- Which lines of a story are bad.
use Rattle.std.proofs.Common.{◌≡◌, ◌||◌, ℕ, Bool, true, false, not, List, [], ◌∷◌, codes, bytes_eq, is_some, refl, sym, ap, ◌∙◌, subst}
use Rattle.std.proofs.lemmas.Slice.Eq.{bytes_eq-Decides}
use Rattle.tcap_play.specs.ScriptLine.{line_of}
use Rattle.tcap_play.specs.Sides.{Engine}
use Rattle.tcap_lines.specs.Reading.{first_fault}
use Rattle.tcap_lines.specs.Table.{is_listed}
use Rattle.tcap_lines.proofs.CallerLemmas.{alone_told, has_form_on_side, side_told}
use Rattle.tcap_stories.specs.StoryTable.{forms_on_side, story_table}
use Rattle.tcap_stories.proofs.AloneForms.{alone_formed, stands_in_story}
use Rattle.tcap_stories.proofs.SideForms.{IsSide, side_formed}

-- the words of a line stand in a story alone
abbrev pub in_story : List (List ℕ) → Bool
in_story [] = false
in_story (first ∷ words) = stands_in_story first words

same_octets : (xs ys : List ℕ) → bytes_eq xs ys ≡ true → xs ≡ ys
same_octets xs ys e = (bytes_eq-Decides xs ys).0 e

side_a : IsSide (codes "A") Engine.a
side_a = record { is = refl; undelivered = refl; unrepeated = refl; unlost = refl; unadvanced = refl }

side_b : IsSide (codes "B") Engine.b
side_b = record { is = refl; undelivered = refl; unrepeated = refl; unlost = refl; unadvanced = refl }

on_side : (side : List ℕ) (engine : Engine) → IsSide side engine → (words : List (List ℕ)) → has_form_on_side forms_on_side words ≡ is_some (line_of (side ∷ words))
on_side side engine s [] = refl
on_side side engine s (name ∷ words) = sym (side_formed side engine s name words)

elsewhere : (first : List ℕ) (words : List (List ℕ)) → bytes_eq first (codes "expect") ≡ false → bytes_eq first (codes "idle") ≡ false → stands_in_story first words ≡ false
elsewhere first [] silent early = silent
elsewhere first (word ∷ []) silent early = rw early refl
elsewhere first (word ∷ second ∷ words) silent early = refl

-- a word of a line of this first word is wrong exactly where it isn't read, and stands in no story alone
abbrev Told : List (List ℕ) → List ℕ → Type 0
Told words first = is_some (first_fault story_table (first ∷ words)) ≡ not (is_some (line_of (first ∷ words)) || stands_in_story first words)

or_none : (b c : Bool) → c ≡ false → b ≡ (b || c)
or_none true c is = refl
or_none false c is = sym is

letter_told : (words : List (List ℕ)) (side : List ℕ) (engine : Engine) → IsSide side engine → is_listed story_table.sides side ≡ true
    → bytes_eq side (codes "expect") ≡ false → bytes_eq side (codes "idle") ≡ false → Told words side
letter_told words side engine s listed silent early =
    side_told story_table side words listed
    ∙ ap not (on_side side engine s words ∙ or_none (is_some (line_of (side ∷ words))) (stands_in_story side words) (elsewhere side words silent early))

-- a word of a line is wrong exactly where the line isn't read and stands in no story alone
pub story_told : (words : List (List ℕ)) → is_some (first_fault story_table words) ≡ not (is_some (line_of words) || in_story words)
story_told [] = refl
story_told (first ∷ words) = go (bytes_eq first (codes "A")) (bytes_eq first (codes "B")) refl refl where
  go : (a b : Bool) → bytes_eq first (codes "A") ≡ a → bytes_eq first (codes "B") ≡ b → Told words first
  go true b h i = subst (Told words) (sym (same_octets first (codes "A") h)) (letter_told words (codes "A") Engine.a side_a refl refl refl)
  go false true h i = subst (Told words) (sym (same_octets first (codes "B") i)) (letter_told words (codes "B") Engine.b side_b refl refl refl)
  go false false h i = alone_told story_table first words (rw (h, i) refl) ∙ ap not (sym (alone_formed first words (rw (h, i) refl)))
