-- Stories read and told one after the other.
use Rattle.std.proofs.Common.{◌≡◌, ◌+◌, ◌++◌, ℕ, List, [], ◌∷◌, length, drop, get_or, map, ◌<◌, zero, suc, Option, Some, None, Result, fold, cond, refl, sym, ap, ◌∙◌, subst, append_assoc, arith}
use Rattle.std.proofs.lemmas.List.{append-nil}
use Rattle.ber_core.specs.Place.{Slice}
use Rattle.std.specs.Io.KnownBytes.{Keeps}
use Rattle.tcap_story_cmd.specs.Counting.{AreCounts, counted}
use Rattle.tcap_story_cmd.specs.Reading.{AreHalted, AreRead, IsGiven, IsRead}
use Rattle.tcap_story_cmd.specs.Run.{AreTold, IsTaken}
use Rattle.tcap_story_cmd.specs.Stories.{Entry, many, report_by, reports, same_verdict, verdict_by}
use Rattle.tcap_story_cmd.specs.declared.report_text.Report.{Report}
use Rattle.tcap_story_cmd.specs.declared.tally.Tally.{Tally}
use Rattle.tcap_story_cmd.specs.declared.unread.Unread.{Unread}
use Rattle.tcap_story_cmd.specs.declared.verdict.Verdict.{Verdict}
use Rattle.tcap_story_cmd.specs.declared.verdict.Verdict.TheVariants as verdict

abbrev pub entry : List ℕ → Result (List ℕ) Unread → Entry
entry name input = record { name = name; input = input }

-- one story more was read
pub read_more : (octets_of : List ℕ → Option (List ℕ)) (names : List (List ℕ)) (es : List Entry) (name : List ℕ) (others : List (List ℕ)) (had mid left : Option (List ℕ)) (input : Result (List ℕ) Unread)
    → AreRead octets_of names es (name ∷ others) had mid → IsRead octets_of name mid left input
    → AreRead octets_of names (es ++ entry name input ∷ []) others had left
read_more octets_of names [] name others had mid left input are is =
    subst (λ ns. AreRead octets_of ns (entry name input ∷ []) others had left) are.0
    (left, refl, subst (λ m. IsRead octets_of name m left input) are.1 is, (refl, refl))
read_more octets_of [] (e ∷ es) name others had mid left input are is = absurd are
read_more octets_of (n ∷ names) (e ∷ es) name others had mid left input are is =
    (are.0, are.1, are.2, read_more octets_of names es name others are.0 mid left input are.3 is)

-- one report more was added
pub reports_more : (report : Report) (es : List Entry) (e : Entry) → reports report (es ++ e ∷ []) ≡ reports report es ++ report_by report e.name e.input
reports_more report [] e = append-nil (report_by report e.name e.input)
reports_more report (x ∷ es) e =
    ap (λ t. report_by report x.name x.input ++ t) (reports_more report es e)
    ∙ sym (append_assoc (report_by report x.name x.input) (reports report es) (report_by report e.name e.input))

abbrev pub weight : Verdict → Entry → ℕ
weight v e = cond (same_verdict v (verdict_by e.input)) 1 0

fold_more : {A X : Type 0} (f : A → X → A) (a : A) (xs : List X) (x : X) → fold f a (xs ++ x ∷ []) ≡ f (fold f a xs) x
fold_more f a [] x = refl
fold_more f a (y ∷ xs) x = fold_more f (f a y) xs x

many_more : (v : Verdict) (es : List Entry) (e : Entry) → many v (es ++ e ∷ []) ≡ many v es + weight v e
many_more v es e = fold_more (λ n x. n + weight v x) 0 es e

abbrev pub weight_by : Verdict → Verdict → ℕ
weight_by v w = cond (same_verdict v w) 1 0

same : (n m : ℕ) → m ≡ n + 0 → n ≡ m
same n m is = omega (arith, is)

counts_by : (tally : Tally) (es more : List Entry) (v : Verdict) → AreCounts tally es
    → many verdict.Passed more ≡ many verdict.Passed es + weight_by verdict.Passed v
    → many verdict.Failed more ≡ many verdict.Failed es + weight_by verdict.Failed v
    → many verdict.NotRead more ≡ many verdict.NotRead es + weight_by verdict.NotRead v
    → AreCounts (counted v tally) more
counts_by tally es more verdict.Passed are p f n =
    record { passed = ap (λ k. k + 1) are.passed ∙ sym p; failed = are.failed ∙ same (many verdict.Failed es) (many verdict.Failed more) f; not_read = are.not_read ∙ same (many verdict.NotRead es) (many verdict.NotRead more) n }
counts_by tally es more verdict.Failed are p f n =
    record { passed = are.passed ∙ same (many verdict.Passed es) (many verdict.Passed more) p; failed = ap (λ k. k + 1) are.failed ∙ sym f; not_read = are.not_read ∙ same (many verdict.NotRead es) (many verdict.NotRead more) n }
counts_by tally es more verdict.NotRead are p f n =
    record { passed = are.passed ∙ same (many verdict.Passed es) (many verdict.Passed more) p; failed = are.failed ∙ same (many verdict.Failed es) (many verdict.Failed more) f; not_read = ap (λ k. k + 1) are.not_read ∙ sym n }

-- one story more was counted
pub counts_more : (tally : Tally) (es : List Entry) (e : Entry) (v : Verdict) → AreCounts tally es → v ≡ verdict_by e.input → AreCounts (counted v tally) (es ++ e ∷ [])
counts_more tally es e v are is =
    counts_by tally es (es ++ e ∷ []) v are (one verdict.Passed) (one verdict.Failed) (one verdict.NotRead) where
      one : (k : Verdict) → many k (es ++ e ∷ []) ≡ many k es + weight_by k v
      one k = many_more k es e ∙ ap (λ x. many k es + weight_by k x) (sym is)

pub total_more : (v : Verdict) (tally : Tally) → (counted v tally).passed + (counted v tally).failed + (counted v tally).not_read ≡ tally.passed + tally.failed + tally.not_read + 1
total_more verdict.Passed tally = omega arith
total_more verdict.Failed tally = omega arith
total_more verdict.NotRead tally = omega arith

-- one story more was told
pub told_more : (report : Report) (octets_of : List ℕ → Option (List ℕ)) (names : List (List ℕ)) (name : List ℕ) (others : List (List ℕ)) (had mid left : Option (List ℕ)) (before now after : List ℕ) (tally : Tally) (v : Verdict)
    → AreTold report octets_of names (name ∷ others) had mid before now tally → IsTaken report octets_of name mid left now after v
    → AreTold report octets_of names others had left before after (counted v tally)
told_more report octets_of names name others had mid left before now after tally v are is =
    let e = entry name is.input in
    record {
      entries = are.entries ++ e ∷ [];
      read = read_more octets_of names are.entries name others had mid left is.input are.read is.read;
      told = is.told ∙ (ap (λ t. t ++ report_by report name is.input) are.told ∙ (append_assoc before (reports report are.entries) (report_by report name is.input) ∙ ap (λ t. before ++ t) (sym (reports_more report are.entries e))));
      counts = counts_more tally are.entries e v are.counts is.verdict;
    }

abbrev pub texts_of : List Slice → List (List ℕ)
texts_of names = map (λ n. n.now) names

names_by : (names : List Slice) (i : ℕ) (d : Slice) → i < length names → texts_of (drop i names) ≡ (get_or names i d).now ∷ texts_of (drop (suc i) names)
names_by [] i d within = absurd (omega (arith, within))
names_by (name ∷ names) zero d within = refl
names_by (name ∷ names) (suc i) d within = names_by names i d (omega (arith, within))

further : (i : ℕ) → suc i ≡ i + 1
further i = omega arith

-- the name at a place, and those behind it
names_from : (names : List Slice) (i : ℕ) (name : List ℕ) (d : Slice) → i < length names → name ≡ (get_or names i d).now → texts_of (drop i names) ≡ name ∷ texts_of (drop (i + 1) names)
names_from names i name d within is =
    names_by names i d within ∙ (ap (λ n. n ∷ texts_of (drop (suc i) names)) (sym is) ∙ ap (λ k. name ∷ texts_of (drop k names)) (further i))

-- the story of the name at a place was told
pub told_next : (report : Report) (octets_of : List ℕ → Option (List ℕ)) (names : List Slice) (i : ℕ) (name : List ℕ) (d : Slice) (had mid left : Option (List ℕ)) (before now after : List ℕ) (tally : Tally) (v : Verdict)
    → i < length names → name ≡ (get_or names i d).now
    → AreTold report octets_of (texts_of names) (texts_of (drop i names)) had mid before now tally × (tally.passed + tally.failed + tally.not_read ≡ i)
    → IsTaken report octets_of name mid left now after v
    → AreTold report octets_of (texts_of names) (texts_of (drop (i + 1) names)) had left before after (counted v tally)
    × ((counted v tally).passed + (counted v tally).failed + (counted v tally).not_read ≡ i + 1)
told_next report octets_of names i name d had mid left before now after tally v within is are taken =
    let others = texts_of (drop (i + 1) names) in
    let so_far : AreTold report octets_of (texts_of names) (name ∷ others) had mid before now tally =
    subst (λ ns. AreTold report octets_of (texts_of names) ns had mid before now tally) (names_from names i name d within is) are.0 in
    (told_more report octets_of (texts_of names) name others had mid left before now after tally v so_far taken, total_more v tally ∙ ap (λ n. n + 1) are.1)

-- known octets stay as they are
pub keeps_none : (known : Option (List ℕ)) → Keeps known known
keeps_none None = tt
keeps_none (Some xs) = refl

-- memory was refused within a further story
pub halted : (report : Report) (octets_of : List ℕ → Option (List ℕ)) (names others : List (List ℕ)) (had mid left : Option (List ℕ)) (before now : List ℕ) (tally : Tally)
    → AreTold report octets_of names others had mid before now tally → IsGiven mid left → AreHalted octets_of names had left
halted report octets_of names others had mid left before now tally are given =
    record { entries = are.entries; others = others; mid = mid; read = are.read; given = given }

-- no story was told yet
pub none_told : (report : Report) (octets_of : List ℕ → Option (List ℕ)) (names : List (List ℕ)) (had : Option (List ℕ)) (before : List ℕ) (tally : Tally) → AreCounts tally []
    → AreTold report octets_of names names had had before before tally
none_told report octets_of names had before tally are = record { entries = []; read = (refl, refl); told = sym (append-nil before); counts = are }
