-- Lines that a piece of the input makes whole, one after the other.
use Rattle.std.proofs.Common.{◌≡◌, ◌+◌, ◌++◌, ◌∙◌, ◌∷◌, ◌&&◌, ℕ, Bool, true, false, List, [], length, refl, sym, ap, arith, append_assoc, append-nil}
use Rattle.std.proofs.lemmas.Grind.{flat_map-append}
use Rattle.std.proofs.lemmas.List.{length-append}
use Rattle.std.proofs.lemmas.List.Folds.{list_all-append}
use Rattle.std.specs.List.{AllByRecursion}
use Rattle.tcap_judging.proofs.EntryLists.{good-alone, good-more, numbered-append, text-alone, text-append}
use Rattle.tcap_judging.specs.Entry.{line, numbered}
use Rattle.tcap_judging.specs.EntryText.{are_good, entries_text, entry_text, is_good_entry}
use Rattle.tcap_judging.specs.Lines.{ended, is_one_line, line_feed}
use Rattle.tcap_judging.specs.LineSteps.{Adds}
use Rattle.tcap_judging.specs.LineViews.{AreKept, IsUnderWay}
use Rattle.tcap_judging.specs.Form.{Form}
use Rattle.tcap_judging.specs.declared.naming.Naming.{Naming}

abbrev IsLine : List ℕ → Type 0
IsLine octets = is_one_line octets ≡ true

abbrev AreLines : List (List ℕ) → Type 0
AreLines lines = AllByRecursion IsLine lines

pub lines-append : (xs ys : List (List ℕ)) → AreLines xs → AreLines ys → AreLines (xs ++ ys)
lines-append [] ys p q = q
lines-append (x ∷ xs) ys p q = (p.0, lines-append xs ys p.1 q)

pub ended-append : (xs ys : List (List ℕ)) → ended (xs ++ ys) ≡ ended xs ++ ended ys
ended-append xs ys = flat_map-append (λ l. l ++ (line_feed ∷ [])) xs ys

line-append : (xs ys : List ℕ) → is_one_line xs ≡ true → is_one_line ys ≡ true → is_one_line (xs ++ ys) ≡ true
line-append xs ys p q = list_all-append _ xs ys ∙ ap (λ (b : Bool). b && is_one_line ys) p ∙ q

-- the lines so far, and what is left of the piece
pub record IsSoFar (form : Form) (naming : Naming) (before piece rest : List ℕ) (number : ℕ) (kept : List ℕ) (is_long : Bool) (next : ℕ) (old new : List ℕ) (good : Bool) : Type 0 where
  pub lines : List (List ℕ)
  pub left : List ℕ
  pub is_input : before ++ piece ≡ ended lines ++ (left ++ rest)
  pub each : AreLines lines
  pub under_way : IsUnderWay left kept is_long
  pub next_number : next ≡ number + length lines
  pub added : new ≡ old ++ entries_text form (numbered naming number lines)
  pub verdict : good ≡ are_good (numbered naming number lines)

-- none yet
pub none-so-far : (form : Form) (naming : Naming) (before piece : List ℕ) (number : ℕ) (kept : List ℕ) (is_long : Bool) (old : List ℕ) → IsUnderWay before kept is_long → IsSoFar form naming before piece piece number kept is_long number old old true
none-so-far form naming before piece number kept is_long old under_way = record {
  lines = [];
  left = before;
  is_input = refl;
  each = tt;
  under_way = under_way;
  next_number = omega arith;
  added = sym (append-nil old);
  verdict = refl;
}

nothing_kept : (kept : List ℕ) (is_long : Bool) → kept ≡ [] → is_long ≡ false → IsUnderWay [] kept is_long
nothing_kept kept is_long k l = rw l ((k, omega arith), refl)

module _ (form : Form) (naming : Naming) (before piece rest : List ℕ) (number : ℕ) (kept : List ℕ) (is_long : Bool) (next : ℕ) (old mid : List ℕ) (good : Bool) (s : IsSoFar form naming before piece rest number kept is_long next old mid good) where
  -- one more
  pub one-more : (octets after new later : List ℕ) (long : Bool) (number_after : ℕ) (judged : Bool) → rest ≡ octets ++ (line_feed ∷ after) → is_one_line octets ≡ true
      → new ≡ mid ++ entry_text form (line naming next (s.left ++ octets)) → judged ≡ is_good_entry (line naming next (s.left ++ octets))
      → later ≡ [] → long ≡ false → number_after ≡ next + 1 → IsSoFar form naming before piece after number later long number_after old new (good && judged)
  one-more octets after new later long number_after judged is_rest one added judges empty short following =
      let whole = s.left ++ octets in
      let is_line : is_one_line whole ≡ true = line-append s.left octets s.under_way.1 one in
      let more : numbered naming number (s.lines ++ (whole ∷ [])) ≡ numbered naming number s.lines ++ (line naming next whole ∷ []) = numbered-append naming number s.lines (whole ∷ []) ∙ ap (λ n. numbered naming number s.lines ++ (line naming n whole ∷ [])) (sym s.next_number) in
      record {
        lines = s.lines ++ (whole ∷ []);
        left = [];
        is_input = s.is_input ∙ ap (λ r. ended s.lines ++ (s.left ++ r)) is_rest ∙ ap (λ r. ended s.lines ++ r) (sym (append_assoc s.left octets (line_feed ∷ after)) ∙ sym (append_assoc whole (line_feed ∷ []) after)) ∙ sym (append_assoc (ended s.lines) (whole ++ (line_feed ∷ [])) after) ∙ ap (λ r. r ++ after) (ap (λ r. ended s.lines ++ r) (sym (append-nil (whole ++ (line_feed ∷ [])))) ∙ sym (ended-append s.lines (whole ∷ [])));
        each = lines-append s.lines (whole ∷ []) s.each (is_line, tt);
        under_way = nothing_kept later long empty short;
        next_number = following ∙ omega (arith, s.next_number, length-append s.lines (whole ∷ []));
        added = added ∙ ap (λ t. t ++ entry_text form (line naming next whole)) s.added ∙ append_assoc old (entries_text form (numbered naming number s.lines)) (entry_text form (line naming next whole)) ∙ ap (λ t. old ++ t) (ap (λ t. entries_text form (numbered naming number s.lines) ++ t) (sym (text-alone form (line naming next whole))) ∙ sym (text-append form (numbered naming number s.lines) (line naming next whole ∷ [])) ∙ ap (entries_text form) (sym more));
        verdict = good-more (numbered naming number s.lines) (line naming next whole ∷ []) good judged s.verdict (judges ∙ sym (good-alone (line naming next whole))) ∙ ap are_good (sym more);
      }

  -- all of them
  pub all-taken : (later : List ℕ) (long : Bool) → is_one_line rest ≡ true → AreKept (s.left ++ rest) later long → Adds form naming before piece number later long next old mid good
  all-taken later long one keeps = record {
    entries = numbered naming number s.lines;
    takes = record {
      lines = s.lines;
      left = s.left ++ rest;
      is_in_lines = record { is_input = s.is_input; each = s.each; last = line-append s.left rest s.under_way.1 one };
      under_way = (keeps, line-append s.left rest s.under_way.1 one);
      next_number = s.next_number;
      are_entries = refl;
    };
    added = s.added;
    verdict = s.verdict;
  }
