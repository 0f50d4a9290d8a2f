-- A stream that goes on behind its faults, read piece by piece.
use Rattle.std.proofs.Common.{◌≡◌, ◌≢◌, ◌≤◌, ◌<◌, ◌+◌, ◌-◌, ◌*◌, ◌++◌, ◌∷◌, ◌&&◌, ℕ, suc, zero, Bool, true, false, List, [], length, drop, Option, Some, None, Result, Ok, Err, nat_lt, refl, sym, ap, subst, take, arith, append_assoc, append-nil}
use Rattle.std.proofs.KnownBytes.{Appends-nil}
use Rattle.std.proofs.lemmas.List.{length-drop}
use Rattle.std.specs.Io.KnownBytes.{Consumes, IsAtEnd}
use Rattle.std.specs.Prelude.{MatchResult}
use Rattle.ber_core.specs.declared.fault.FeedFault.{FeedFault}
use Rattle.ber_core.specs.Stream.{cut_into, cut_of}
use Rattle.tcap_judging.proofs.Going.{IsGoing, cut-end, cut-piece, finished, goes-on, short-end, short-piece}
use Rattle.tcap_judging.proofs.ResyncCuts.{cut-none, first-sizes, place-within}
use Rattle.tcap_judging.proofs.ResyncSteps.{leads-then}
use Rattle.tcap_judging.proofs.StreamCuts.{none-left}
use Rattle.tcap_judging.specs.Entry.{Entry, broken, message, passed}
use Rattle.tcap_judging.specs.EntryText.{are_good}
use Rattle.tcap_judging.specs.Resync.{ResyncTells, Tells, first_of, is_known, judged_of, may_begin, passed_in}
use Rattle.tcap_judging.specs.Resync.Tells.{stays, faults, reads, doubts, searches, finds, searches_within, finds_within, finds_none}
use Rattle.tcap_judging.specs.ResyncSteps.{AreStepsUntaken, IsEndUntold, Leads, WritesEnd, WritesSteps, has_more, left_at}
use Rattle.tcap_judging.specs.Run.{IsJudged, IsUnjudged}
use Rattle.tcap_judging.specs.declared.fault.JudgingFault.{JudgingFault}
use Rattle.tcap_judging.specs.declared.fault.JudgingFault.TheVariants as fault
use Rattle.tcap_judging.specs.Form.{Form}
use Rattle.tcap_judging.specs.declared.place.Place.{Place}
use Rattle.tcap_judging.specs.declared.place.Place.TheVariants.{Reading, Searching, Within}
use Rattle.tcap_words.specs.Show.{show_is_good}

-- ---- from each place something is told where the stream ends

abbrev Told : Place → List ℕ → Type 0
Told place octets = (es : List Entry) × Tells true place octets es

told-none : (offset : ℕ) (octets : List ℕ) (f : Option FeedFault) (known : Bool) → cut_of octets ≡ cut_into [] octets f → is_known true octets f ≡ known → (0 < length octets → Told (Searching offset 1) (drop 1 octets)) → Told (Reading offset) octets
told-none offset octets f false is e deeper = ([], stays true offset octets f is e)
told-none offset octets f true is e deeper = let more = deeper (grind (arith, e)) in (broken offset (judged_of octets f) ∷ more.0, faults true offset octets f more.0 is e more.1)

told-first : (offset : ℕ) (octets m : List ℕ) (good : Bool) → first_of (cut_of octets).messages ≡ Some m → show_is_good m ≡ good → Told (Reading (offset + length m)) (drop (length m) octets) → Told (Within offset 1 (length m - 1)) (drop 1 octets) → Told (Reading offset) octets
told-first offset octets m true is g behind within = (message offset m ∷ behind.0, reads true offset octets m behind.0 is g behind.1)
told-first offset octets m false is g behind within = (message offset m ∷ within.0, doubts true offset octets m within.0 is g within.1)

told-reading : (offset : ℕ) (octets : List ℕ) (ms : List (List ℕ)) → (cut_of octets).messages ≡ ms → ((place : Place) (rest : List ℕ) → left_at place (length rest) < 2 * length octets → Told place rest) → Told (Reading offset) octets
told-reading offset octets [] none deeper = told-none offset octets (cut_of octets).fault _ (cut-none octets none) refl (λ some. deeper (Searching offset 1) (drop 1 octets) (omega (arith, some, length-drop 1 octets)))
told-reading offset octets (m ∷ ms) is deeper =
    let first : first_of (cut_of octets).messages ≡ Some m = ap first_of is in
    let sizes = first-sizes octets m first in
    let filled = sizes.0 in
    let within = sizes.1 in
    told-first offset octets m _ first refl (deeper (Reading (offset + length m)) (drop (length m) octets) (omega (arith, filled, within, length-drop (length m) octets)))
    (deeper (Within offset 1 (length m - 1)) (drop 1 octets) (omega (arith, filled, within, length-drop 1 octets)))

told-within : (first count left : ℕ) (octets : List ℕ) (few : Bool) → nat_lt (passed_in true octets) left ≡ few → Told (Reading (first + (count + passed_in true octets))) (drop (passed_in true octets) octets) → Told (Reading (first + (count + left))) (drop left octets) → Told (Within first count left) octets
told-within first count left octets true e found none = (passed first (count + passed_in true octets) ∷ found.0, finds_within true first count left octets found.0 (grind (arith, e)) refl found.1)
told-within first count left octets false e found none = (none.0, finds_none true first count left octets none.0 (grind (arith, e)) none.1)

told-by : (n : ℕ) (place : Place) (octets : List ℕ) → left_at place (length octets) ≤ n → Told place octets
told-by zero (Reading offset) octets low = told-reading offset octets _ refl (λ place rest less. absurd (omega (arith, low, less)))
told-by (suc n) (Reading offset) octets low = told-reading offset octets _ refl (λ place rest less. told-by n place rest (omega (arith, low, less)))
told-by zero (Searching first count) octets low = absurd (omega (arith, low))
told-by (suc n) (Searching first count) octets low =
    let p = passed_in true octets in
    let within = place-within (may_begin true) octets in
    let more = told-by n (Reading (first + (count + p))) (drop p octets) (omega (arith, low, within, length-drop p octets)) in
    (passed first (count + p) ∷ more.0, finds true first count octets more.0 refl more.1)
told-by zero (Within first count left) octets low = absurd (omega (arith, low))
told-by (suc n) (Within first count left) octets low =
    let p = passed_in true octets in
    told-within first count left octets _ refl (told-by n (Reading (first + (count + p))) (drop p octets) (omega (arith, low, length-drop p octets)))
    (told-by n (Reading (first + (count + left))) (drop left octets) (omega (arith, low, length-drop left octets)))

pub told : (place : Place) (octets : List ℕ) → Told place octets
told place octets = told-by (left_at place (length octets)) place octets (omega arith)

-- ---- and where there is more, not nothing

reading-told : (offset : ℕ) (octets : List ℕ) (es : List Entry) → 0 < length octets → Tells true (Reading offset) octets es → es ≢ []
reading-told _ _ _ some (stays _ offset octets f is unknown) e = grind (arith, some, unknown)
reading-told _ _ _ some (faults _ offset octets f es is known deeper) e = absurd cc
reading-told _ _ _ some (reads _ offset octets m es is good deeper) e = absurd cc
reading-told _ _ _ some (doubts _ offset octets m es is bad deeper) e = absurd cc

pub more-told : (place : Place) (octets : List ℕ) (es : List Entry) → has_more place octets ≡ true → Tells true place octets es → es ≢ []
more-told (Reading offset) octets es more t e = reading-told offset octets es (grind (arith, more)) t e
more-told _ _ _ more (searches _ first count octets h) e = absurd cc
more-told _ _ _ more (finds _ first count octets es h deeper) e = absurd cc
more-told _ _ _ more (searches_within _ first count left octets few h) e = absurd cc
more-told _ _ _ more (finds_within _ first count left octets es few h deeper) e = absurd cc
more-told _ _ _ more (finds_none _ first count left octets es many deeper) e =
    let some : left < length octets = grind (arith, more, many) in
    reading-told (first + (count + left)) (drop left octets) es (omega (arith, some, length-drop left octets)) deeper e

-- ---- the end

-- all that is told where a stream ends
pub end-tells : (place : Place) (octets : List ℕ) (made : List Entry) (later : Place) (rest : List ℕ) → Leads true place octets made later rest true → Tells true place octets made
end-tells place octets made later rest l =
    subst (λ w. Tells true place w made) (append-nil octets) (subst (Tells true place (octets ++ [])) (append-nil made) (l.goes [] true [] (refl, refl) (subst (λ w. Tells true later w []) (sym (append-nil rest)) (l.over refl))))

good-none : (b : Bool) → b ≡ (b && true)
good-none true = refl
good-none false = refl

-- nothing more
pub none-told : (form : Form) (place : Place) (octets : List ℕ) (old : Option (List ℕ)) (good : Bool) → has_more place octets ≡ false → WritesEnd form place octets old old good good
none-told form (Reading offset) octets old good none =
    let zero_len : length octets ≡ 0 = grind (arith, none) in
    record {
      made = [];
      tells = stays true offset octets None (none-left octets zero_len) (ap (nat_lt 0) zero_len);
      written = Appends-nil old;
      verdict = good-none good;
    }
none-told form (Searching first count) octets old good none = absurd cc
none-told form (Within first count left) octets old good none =
    let many : left ≤ passed_in true octets = grind (arith, none) in
    let all : length octets ≤ left = grind (arith, none) in
    let zero_len : length (drop left octets) ≡ 0 = omega (arith, all, length-drop left octets) in
    record {
      made = [];
      tells = finds_none true first count left octets [] many (stays true (first + (count + left)) (drop left octets) None (none-left (drop left octets) zero_len) (ap (nat_lt 0) zero_len));
      written = Appends-nil old;
      verdict = good-none good;
    }

-- ---- what a stream tells, by where a run stands

-- nothing was read
pub at-first : Leads false (Reading 0) [] [] (Reading 0) [] true
at-first = record { goes = λ more later_ends others ahead t. t; over = λ o. stays false 0 [] None (none-left [] refl) refl }

module _ (input : List ℕ) (entries : List Entry) (place : Place) (kept : List ℕ) (l : Leads false (Reading 0) input entries place kept true) where
  pub tells-with : (last : List Entry) → Tells true place kept last → ResyncTells input entries last
  tells-with last t = record {
    so_far = subst (λ w. Tells false (Reading 0) w entries) (append-nil input) (subst (Tells false (Reading 0) (input ++ [])) (append-nil entries) (l.goes [] false [] tt (subst (λ w. Tells false place w []) (sym (append-nil kept)) (l.over refl))));
    in_all = subst (λ w. Tells true (Reading 0) w (entries ++ last)) (append-nil input) (l.goes [] true last tt (subst (λ w. Tells true place w last) (sym (append-nil kept)) t));
  }

  -- more octets
  leads-on : (piece : List ℕ) → Leads false (Reading 0) (input ++ piece) entries place (kept ++ piece) false
  leads-on piece = record {
    goes = λ more later_ends others ahead t. subst (λ w. Tells later_ends (Reading 0) w (entries ++ others)) (sym (append_assoc input piece more)) (l.goes (piece ++ more) later_ends others tt (subst (λ w. Tells later_ends place w others) (append_assoc kept piece more) t));
    over = λ o. absurd cc;
  }

  pub leads-more : (piece : List ℕ) (made : List Entry) (later : Place) (rest : List ℕ) → Leads false place (kept ++ piece) made later rest true → Leads false (Reading 0) (input ++ piece) (entries ++ made) later rest true
  leads-more piece made later rest more = leads-then false (Reading 0) place later (input ++ piece) (kept ++ piece) rest entries made true (leads-on piece) more

-- ---- a run

module _ (form : Form) (had left old mid : Option (List ℕ)) (good : Bool) (reads : ℕ) (going : IsGoing form ResyncTells had left old mid good reads) (place : Place) (kept : List ℕ) (l : Leads false (Reading 0) going.input going.entries place kept true) where
  -- the same run, with these entries to tell where it ends
  abbrev with-last : (last : List Entry) → Tells true place kept last → IsGoing form ResyncTells had left old mid good reads
  with-last last t = record { input = going.input; entries = going.entries; last = last; given = going.given; tells = tells-with going.input going.entries place kept l last t; written = going.written; verdict = going.verdict; many = going.many }

  -- ---- the reader was at its end
  module _ (now : Option (List ℕ)) (count : ℕ) (room : List ℕ) (is_zero : count ≡ 0) (roomy : 0 < length room) (given : Consumes left now (take count room)) (end : count ≡ 0 → 0 < length room → IsAtEnd now) (new : Option (List ℕ)) where
    untold : (f : JudgingFault) → IsEndUntold form place kept mid new f → IsUnjudged form ResyncTells had now old new f
    untold fault.OutOfMemory u =
        let all = told place kept in
        short-end form ResyncTells had left old mid good reads (with-last all.0 all.1) now count room is_zero roomy given end new (more-told place kept all.0 u.1 all.1) u.0
    untold fault.Read u = absurd u
    untold fault.Write u = cut-end form ResyncTells had left old mid good reads (with-last u.made u.tells) now count room is_zero roomy given end new u.written
    untold fault.TooLong u = absurd u

    -- what is left was told, or it was not
    pub resync-ended : (r : Result Bool JudgingFault) → MatchResult r (λ ends. WritesEnd form place kept mid new good ends) (λ f. IsEndUntold form place kept mid new f)
        → MatchResult r (λ ends. IsJudged form ResyncTells had now old new ends) (λ f. IsUnjudged form ResyncTells had now old new f)
    resync-ended (Ok ends) w =
        let all = finished form ResyncTells had left old mid good reads (with-last w.made w.tells) now count room is_zero roomy given end new (are_good w.made) w.written refl in
        subst (λ (b : Bool). IsJudged form ResyncTells had now old new b) (sym w.verdict) all
    resync-ended (Err f) u = untold f u

  -- ---- a piece was read
  module _ (now : Option (List ℕ)) (piece : List ℕ) (read : Consumes left now piece) (some : 0 < length piece) (new : Option (List ℕ)) where
    tells-more : (made : List Entry) (later : Place) (rest : List ℕ) → Leads false place (kept ++ piece) made later rest true → (last : List Entry) × ResyncTells (going.input ++ piece) (going.entries ++ made) last
    tells-more made later rest more =
        let all = told later rest in
        (all.0, tells-with (going.input ++ piece) (going.entries ++ made) later rest (leads-more going.input going.entries place kept l piece made later rest more) all.0 all.1)

    -- the text of what it makes known was not written
    pub resync-untaken : (f : JudgingFault) → AreStepsUntaken form place (kept ++ piece) mid new f → IsUnjudged form ResyncTells had now old new f
    resync-untaken fault.OutOfMemory u = short-piece form ResyncTells had left old mid good reads going now piece read some new u
    resync-untaken fault.Read u = absurd u
    resync-untaken fault.Write u =
        let more = tells-more u.made u.later u.rest u.leads in
        cut-piece form ResyncTells had left old mid good reads going now piece read some new u.made more.0 more.1 u.written
    resync-untaken fault.TooLong u = absurd u

    -- it was
    pub resync-goes-on : (later : Place) (rest : List ℕ) (judged : Bool) → WritesSteps form place (kept ++ piece) later rest mid new judged
        → (more : IsGoing form ResyncTells had now old new (good && judged) (reads + 1)) × Leads false (Reading 0) more.input more.entries later rest true
    resync-goes-on later rest judged w =
        let more = tells-more w.made later rest w.leads in (
          goes-on form ResyncTells had left old mid good reads going now piece read some new judged w.made more.0 more.1 w.written w.verdict,
          leads-more going.input going.entries place kept l piece w.made later rest w.leads,
        )
