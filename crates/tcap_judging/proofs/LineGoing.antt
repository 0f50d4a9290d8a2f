-- Lines that are read piece by piece.
use Rattle.std.proofs.Common.{◌≡◌, ◌≢◌, ◌<◌, ◌+◌, ◌++◌, ◌∙◌, ◌∷◌, ◌&&◌, ℕ, Bool, List, [], length, Option, Result, Ok, Err, refl, sym, ap, subst, take, arith, append_assoc}
use Rattle.std.proofs.lemmas.List.{length-append}
use Rattle.std.specs.Io.KnownBytes.{Appends, Consumes, IsAtEnd}
use Rattle.std.specs.Prelude.{MatchResult}
use Rattle.tcap_judging.proofs.EntryLists.{good-alone, numbered-append, text-alone}
use Rattle.tcap_judging.proofs.Going.{IsGoing, cut-end, cut-piece, finished, goes-on, short-end, short-piece}
use Rattle.tcap_judging.proofs.LineCuts.{ended-append, lines-append}
use Rattle.tcap_judging.specs.Entry.{Entry, LinesTell, line, numbered}
use Rattle.tcap_judging.specs.EntryText.{are_good, entries_text, entry_text, is_good_entry}
use Rattle.tcap_judging.specs.Lines.{IsInLines, ended}
use Rattle.tcap_judging.specs.LineSteps.{IsUnended, IsUntaken, Writes}
use Rattle.tcap_judging.specs.LineViews.{IsUnderWay}
use Rattle.tcap_judging.specs.Run.{IsJudged, IsUnjudged}
use Rattle.tcap_judging.specs.declared.fault.JudgingFault.{JudgingFault}
use Rattle.tcap_judging.specs.declared.fault.JudgingFault.TheVariants as fault
use Rattle.tcap_words.specs.Writing.{IsFront}
use Rattle.tcap_judging.specs.Form.{Form}
use Rattle.tcap_judging.specs.declared.naming.Naming.{Naming}

-- nothing was read
abbrev pub no_lines : (naming : Naming) → LinesTell naming [] [] (numbered naming 1 ([] ∷ []))
no_lines naming = record { lines = []; rest = []; is_in_lines = record { is_input = refl; each = tt; last = refl }; are_entries = refl; is_last = refl }

-- lines of more octets
pub more-lines : (lines told : List (List ℕ)) (rest left input piece : List ℕ) → IsInLines lines rest input → IsInLines told left (rest ++ piece) → IsInLines (lines ++ told) left (input ++ piece)
more-lines lines told rest left input piece a b = record {
  is_input = ap (λ i. i ++ piece) a.is_input ∙ append_assoc (ended lines) rest piece ∙ ap (λ r. ended lines ++ r) b.is_input ∙ sym (append_assoc (ended lines) (ended told) left) ∙ ap (λ r. r ++ left) (sym (ended-append lines told));
  each = lines-append lines told a.each b.each;
  last = b.last;
}

-- what they tell
abbrev pub tell-more : (naming : Naming) (told : List (List ℕ)) (left input piece : List ℕ) (entries last : List Entry) (t : LinesTell naming input entries last) (number : ℕ) → number ≡ length t.lines + 1 → IsInLines told left (t.rest ++ piece)
    → LinesTell naming (input ++ piece) (entries ++ numbered naming number told) (numbered naming (length (t.lines ++ told) + 1) (left ∷ []))
tell-more naming told left input piece entries last t number e b = record {
  lines = t.lines ++ told;
  rest = left;
  is_in_lines = more-lines t.lines told t.rest left input piece t.is_in_lines b;
  are_entries = ap (λ es. es ++ numbered naming number told) t.are_entries ∙ ap (λ n. numbered naming 1 t.lines ++ numbered naming n told) (e ∙ omega arith) ∙ sym (numbered-append naming 1 t.lines told);
  is_last = refl;
}

module _ (form : Form) (naming : Naming) (had left old mid : Option (List ℕ)) (good : Bool) (reads : ℕ) (going : IsGoing form (LinesTell naming) had left old mid good reads) (number : ℕ) (is_next : number ≡ length going.tells.lines + 1) where
  abbrev last : Entry
  last = line naming number going.tells.rest

  last-is : going.last ≡ last ∷ []
  last-is = going.tells.is_last ∙ ap (λ n. line naming n going.tells.rest ∷ []) (sym is_next)

  last-text : entry_text form last ≡ entries_text form going.last
  last-text = sym (text-alone form last) ∙ ap (entries_text form) (sym last-is)

  some-last : (entries : List Entry) → entries ≡ last ∷ [] → entries ≢ []
  some-last [] e h = absurd cc
  some-last (x ∷ xs) e h = absurd cc

  -- ---- the reader was at its end
  module _ (now : Option (List ℕ)) (count : ℕ) (room : List ℕ) (is_zero : count ≡ 0) (roomy : 0 < length room) (none : Consumes left now (take count room)) (end : count ≡ 0 → 0 < length room → IsAtEnd now) (new : Option (List ℕ)) where
    unended : (f : JudgingFault) → IsUnended form naming going.tells.rest number mid new f → IsUnjudged form (LinesTell naming) had now old new f
    unended fault.OutOfMemory u = short-end form (LinesTell naming) had left old mid good reads going now count room is_zero roomy none end new (some-last going.last last-is) u
    unended fault.Read u = absurd u
    unended fault.Write u = cut-end form (LinesTell naming) had left old mid good reads going now count room is_zero roomy none end new (subst (λ t. IsFront t mid new) last-text u)
    unended fault.TooLong u = absurd u

    -- the last line was written, or it was not
    pub line-ended : (r : Result Bool JudgingFault) → MatchResult r (λ ends. Appends mid new (entry_text form last) × (ends ≡ (good && is_good_entry last))) (λ f. IsUnended form naming going.tells.rest number mid new f)
        → MatchResult r (λ ends. IsJudged form (LinesTell naming) had now old new ends) (λ f. IsUnjudged form (LinesTell naming) had now old new f)
    line-ended (Ok ends) h =
        let all = finished form (LinesTell naming) had left old mid good reads going now count room is_zero roomy none end new (is_good_entry last) (subst (Appends mid new) last-text h.0) (sym (good-alone last) ∙ ap are_good (sym last-is)) in
        subst (λ (b : Bool). IsJudged form (LinesTell naming) had now old new b) (sym h.1) all
    line-ended (Err f) h = unended f h

  -- ---- a piece was read
  module _ (now : Option (List ℕ)) (piece : List ℕ) (read : Consumes left now piece) (some : 0 < length piece) (new : Option (List ℕ)) where
    -- the text of the lines that it makes whole was not written
    pub line-untaken : (f : JudgingFault) → IsUntaken form naming going.tells.rest piece number mid new f → IsUnjudged form (LinesTell naming) had now old new f
    line-untaken fault.OutOfMemory u = short-piece form (LinesTell naming) had left old mid good reads going now piece read some new u
    line-untaken fault.Read u = absurd u
    line-untaken fault.Write u = cut-piece form (LinesTell naming) had left old mid good reads going now piece read some new (numbered naming number u.lines) _ (tell-more naming u.lines u.left going.input piece going.entries going.last going.tells number is_next u.is_in_lines) u.written
    line-untaken fault.TooLong u = absurd u

    -- it was, and these lines are whole
    pub line-goes-on : (kept : List ℕ) (is_long : Bool) (next : ℕ) (judged : Bool) → Writes form naming going.tells.rest piece number kept is_long next mid new judged
        → (later : IsGoing form (LinesTell naming) had now old new (good && judged) (reads + 1)) × IsUnderWay later.tells.rest kept is_long × (next ≡ length later.tells.lines + 1)
    line-goes-on kept is_long next judged w =
        let t = w.takes in
        let tells = tell-more naming t.lines t.left going.input piece going.entries going.last going.tells number is_next t.is_in_lines in
        let later = goes-on form (LinesTell naming) had left old mid good reads going now piece read some new judged (numbered naming number t.lines) _ tells (subst (λ es. Appends mid new (entries_text form es)) t.are_entries w.written) (w.verdict ∙ ap are_good t.are_entries) in
        (later, t.under_way, t.next_number ∙ omega (arith, is_next, length-append going.tells.lines t.lines))
