-- A list of names, line by line.
use Rattle.std.proofs.Common.{◌≡◌, ◌<◌, ◌+◌, ◌++◌, ◌∙◌, ◌∷◌, ℕ, zero, suc, true, false, List, [], inl, inr, length, map, drop, slice_index_or, Some, refl, sym, ap, arith, append_assoc, append-nil}
use Rattle.std.proofs.lemmas.Grind.{flat_map-append}
use Rattle.std.specs.List.{AllByRecursion}
use Rattle.tcap_judging.proofs.LineCuts.{ended-append, lines-append}
use Rattle.tcap_judging.specs.LineParts.{trimmed}
use Rattle.tcap_judging.specs.Lines.{ended, is_one_line, line_feed}
use Rattle.tcap_judging.specs.NameViews.{named_view}
use Rattle.tcap_judging.specs.Names.{AreNames, IsBadAt, IsNameLine, NameParts, first_by, is_for, is_name_line, line_of, name_for, names_in, names_of}
use Rattle.tcap_judging.specs.declared.name_list.NameKind.{NameKind}
use Rattle.tcap_judging.specs.declared.name_list.Named.{Named}

abbrev IsLine : List ℕ → Type 0
IsLine line = is_one_line line ≡ true

names-append : (xs ys : List (List ℕ)) → AllByRecursion IsNameLine xs → AllByRecursion IsNameLine ys → AllByRecursion IsNameLine (xs ++ ys)
names-append [] ys p q = q
names-append (x ∷ xs) ys p q = (p.0, names-append xs ys p.1 q)

in-append : (xs ys : List (List ℕ)) → names_in (xs ++ ys) ≡ names_in xs ++ names_in ys
in-append xs ys = flat_map-append (λ line. names_of (line_of (trimmed line))) xs ys

-- the lines so far, and what is left
pub record IsSoFar (text rest : List ℕ) (names : List NameParts) (number : ℕ) : Type 0 where
  pub lines : List (List ℕ)
  pub is_text : text ≡ ended lines ++ rest
  pub alone : AllByRecursion IsLine lines
  pub each : AllByRecursion IsNameLine lines
  pub are_names : names ≡ names_in lines
  pub is_number : number ≡ length lines + 1

pub none-so-far : (text : List ℕ) → IsSoFar text text [] 1
none-so-far text = record { lines = []; is_text = refl; alone = tt; each = tt; are_names = refl; is_number = refl }

module _ (text rest : List ℕ) (names : List NameParts) (number : ℕ) (s : IsSoFar text rest names number) where
  -- one more
  pub one-more : (line after : List ℕ) (more : List NameParts) (later : ℕ) → rest ≡ line ++ (line_feed ∷ after) → is_one_line line ≡ true → is_name_line (line_of (trimmed line)) ≡ true → more ≡ names ++ names_of (line_of (trimmed line)) → later ≡ number + 1 → IsSoFar text after more later
  one-more line after more later cut alone good added next = record {
    lines = s.lines ++ (line ∷ []);
    is_text =
        let joined : ended (s.lines ++ (line ∷ [])) ++ after ≡ ended s.lines ++ (line ++ (line_feed ∷ after)) =
        ap (λ e. e ++ after) (ended-append s.lines (line ∷ []) ∙ ap (λ e. ended s.lines ++ e) (append-nil (line ++ (line_feed ∷ []))))
        ∙ append_assoc (ended s.lines) (line ++ (line_feed ∷ [])) after ∙ ap (λ e. ended s.lines ++ e) (append_assoc line (line_feed ∷ []) after) in
        s.is_text ∙ ap (λ r. ended s.lines ++ r) cut ∙ sym joined;
    alone = lines-append s.lines (line ∷ []) s.alone (alone, tt);
    each = names-append s.lines (line ∷ []) s.each (good, tt);
    are_names = added ∙ ap (λ n. n ++ names_of (line_of (trimmed line))) s.are_names ∙ ap (λ n. names_in s.lines ++ n) (sym (append-nil (names_of (line_of (trimmed line))))) ∙ sym (in-append s.lines (line ∷ []));
    is_number = let len = lengths s.lines line in next ∙ omega (arith, s.is_number, len);
  }
    where
      lengths : (xs : List (List ℕ)) (x : List ℕ) → length (xs ++ (x ∷ [])) ≡ length xs + 1
      lengths [] x = omega arith
      lengths (y ∷ xs) x = let more = lengths xs x in omega (arith, more)

  -- the last line too
  pub all-names : (all : List NameParts) → is_one_line rest ≡ true → is_name_line (line_of (trimmed rest)) ≡ true → all ≡ names ++ names_of (line_of (trimmed rest)) → AreNames text all
  all-names all alone good added = record {
    lines = s.lines;
    rest = rest;
    is_in_lines = record { is_input = s.is_text; each = s.alone; last = alone };
    each = names-append s.lines (rest ∷ []) s.each (good, tt);
    are_names = added ∙ ap (λ n. n ++ names_of (line_of (trimmed rest))) s.are_names ∙ ap (λ n. names_in s.lines ++ n) (sym (append-nil (names_of (line_of (trimmed rest))))) ∙ sym (in-append s.lines (rest ∷ []));
  }

  -- a line is bad
  pub bad-at : (line after : List ℕ) → rest ≡ line ++ (line_feed ∷ after) → is_one_line line ≡ true → is_name_line (line_of (trimmed line)) ≡ false → IsBadAt text number
  bad-at line after cut alone bad = record {
    before = s.lines;
    line = line;
    after = line_feed ∷ after;
    is_text = s.is_text ∙ ap (λ r. ended s.lines ++ r) cut;
    each_alone = s.alone;
    alone = alone;
    ends = inr (after, refl);
    each = s.each;
    is_bad = bad;
    is_number = s.is_number;
  }

  -- the last line is
  pub last-bad : is_one_line rest ≡ true → is_name_line (line_of (trimmed rest)) ≡ false → IsBadAt text number
  last-bad alone bad = record {
    before = s.lines;
    line = rest;
    after = [];
    is_text = s.is_text ∙ ap (λ r. ended s.lines ++ r) (sym (append-nil rest));
    each_alone = s.alone;
    alone = alone;
    ends = inl refl;
    each = s.each;
    is_bad = bad;
    is_number = s.is_number;
  }

-- ---- the first name that is sought

-- the names from a place on are the one there and those behind it
pub name-next : (kind : NameKind) (key : List ℕ) (names : List Named) (n : ℕ) (d : Named) → n < length names → name_for kind key (map named_view (drop n names)) ≡ first_by (is_for kind key (named_view (slice_index_or names n d))) (named_view (slice_index_or names n d)).name (name_for kind key (map named_view (drop (n + 1) names)))
name-next kind key [] n d low = absurd (omega (arith, low))
name-next kind key (x ∷ names) zero d low = refl
name-next kind key (x ∷ names) (suc n) d low =
    let next : suc n + 1 ≡ suc (n + 1) = omega arith in
    name-next kind key names n d (grind (arith, low)) ∙ ap (λ m. first_by (is_for kind key (named_view (slice_index_or names n d))) (named_view (slice_index_or names n d)).name (name_for kind key (map named_view (drop m (x ∷ names))))) (sym next)

pub name-found : (kind : NameKind) (key : List ℕ) (names : List Named) (n : ℕ) (d : Named) → n < length names → is_for kind key (named_view (slice_index_or names n d)) ≡ true → name_for kind key (map named_view (drop n names)) ≡ Some (named_view (slice_index_or names n d)).name
name-found kind key names n d low is =
    name-next kind key names n d low ∙ ap (λ b. first_by b (named_view (slice_index_or names n d)).name (name_for kind key (map named_view (drop (n + 1) names)))) is

pub name-passed : (kind : NameKind) (key : List ℕ) (names : List Named) (n : ℕ) (d : Named) → n < length names → is_for kind key (named_view (slice_index_or names n d)) ≡ false → name_for kind key (map named_view (drop n names)) ≡ name_for kind key (map named_view (drop (n + 1) names))
name-passed kind key names n d low is =
    name-next kind key names n d low ∙ ap (λ b. first_by b (named_view (slice_index_or names n d)).name (name_for kind key (map named_view (drop (n + 1) names)))) is
