-- A stream that is read piece by piece.
use Rattle.std.proofs.Common.{◌≡◌, ◌≢◌, ◌<◌, ◌+◌, ◌++◌, ◌∙◌, ◌∷◌, ◌&&◌, ℕ, Bool, true, false, List, [], length, Option, Some, None, Result, Ok, Err, refl, sym, ap, subst, take, arith, append_assoc, append-nil}
use Rattle.std.specs.Io.KnownBytes.{Appends, Consumes, IsAtEnd}
use Rattle.std.specs.Option.{is_some}
use Rattle.std.specs.Prelude.{MatchResult}
use Rattle.ber_core.proofs.CallerLemmas.{after_messages, cut-longer}
use Rattle.ber_core.specs.declared.fault.FeedFault.{FeedFault}
use Rattle.ber_core.specs.Stream.{Cut, cut_into, cut_of}
use Rattle.tcap_judging.proofs.Going.{IsGoing, cut-end, cut-piece, finished, goes-on, short-end, short-piece, stopped}
use Rattle.tcap_judging.proofs.StreamCuts.{messages-append, none-left, octets-append}
use Rattle.tcap_judging.specs.Entry.{Entry, IsBroken, StreamTells, broken_entries, message_entries, octets_in, unfinished_entries}
use Rattle.tcap_judging.specs.EntryText.{are_good, entries_text}
use Rattle.tcap_judging.specs.Run.{IsJudged, IsUnjudged}
use Rattle.tcap_judging.specs.StreamSteps.{AreOctetsUntaken, IsRestUntold, TakesOctets, WritesOctets}
use Rattle.tcap_judging.specs.declared.fault.JudgingFault.{JudgingFault}
use Rattle.tcap_judging.specs.declared.fault.JudgingFault.TheVariants as fault
use Rattle.tcap_words.specs.Writing.{IsFront}
use Rattle.tcap_judging.specs.Form.{Form}

-- nothing was read
abbrev pub nothing : StreamTells [] [] []
nothing = record { messages = []; rest = []; fault = None; is_cut = none-left [] refl; are_entries = refl; is_last = refl }

-- what more octets tell
abbrev pub tell-more : (input entries last piece kept made : _) (t : StreamTells input entries last) (had : List ℕ) (offset next : ℕ) (f : Option FeedFault) → t.rest ≡ had → t.fault ≡ None → offset ≡ octets_in t.messages → TakesOctets (had ++ piece) offset kept next f made
    → StreamTells (input ++ piece) (entries ++ made) (unfinished_entries next kept f)
tell-more input entries last piece kept made t had offset next f is_rest none is_offset takes =
    let all = t.messages ++ takes.messages in
    let longer : cut_of (input ++ piece) ≡ cut_into all kept f = cut-longer input piece ∙ ap (λ (c : Cut). after_messages c.messages (cut_of (c.rest ++ piece))) t.is_cut ∙ ap (λ (r : List ℕ). after_messages t.messages (cut_of (r ++ piece))) is_rest ∙ ap (after_messages t.messages) takes.is_cut in
    let is_next : next ≡ octets_in all = takes.is_next ∙ ap (λ n. n + octets_in takes.messages) is_offset ∙ sym (octets-append t.messages takes.messages) in
    let before : entries ≡ message_entries 0 t.messages = t.are_entries ∙ ap (λ g. message_entries 0 t.messages ++ broken_entries (octets_in t.messages) t.rest g) none ∙ append-nil (message_entries 0 t.messages) in
    let told : message_entries 0 t.messages ++ message_entries offset takes.messages ≡ message_entries 0 all = ap (λ n. message_entries 0 t.messages ++ message_entries n takes.messages) (is_offset ∙ omega arith) ∙ sym (messages-append 0 t.messages takes.messages) in
    record {
      messages = all;
      rest = kept;
      fault = f;
      is_cut = longer;
      are_entries = ap (λ es. es ++ made) before ∙ ap (λ es. message_entries 0 t.messages ++ es) takes.are_made ∙ sym (append_assoc (message_entries 0 t.messages) (message_entries offset takes.messages) (broken_entries next kept f)) ∙ ap (λ es. es ++ broken_entries next kept f) told ∙ ap (λ n. message_entries 0 all ++ broken_entries n kept f) is_next;
      is_last = ap (λ n. unfinished_entries n kept f) is_next;
    }

-- a fault stands: nothing is left to the end, and the last entry is what stands behind the messages
none-last : (next : ℕ) (kept : List ℕ) (f : Option FeedFault) → is_some f ≡ true → unfinished_entries next kept f ≡ []
none-last next kept None h = absurd cc
none-last next kept (Some why) h = refl

broken-behind : (entries told made : List Entry) (next : ℕ) (kept : List ℕ) (f : Option FeedFault) → is_some f ≡ true → made ≡ told ++ broken_entries next kept f → IsBroken (entries ++ made)
broken-behind entries told made next kept None h e = absurd cc
broken-behind entries told made next kept (Some why) h e = (entries ++ told, _, _, ap (λ es. entries ++ es) e ∙ sym (append_assoc entries told (broken_entries next kept (Some why))))

some-unfinished : (offset : ℕ) (rest : List ℕ) → 0 < length rest → unfinished_entries offset rest None ≢ []
some-unfinished offset [] low e = absurd (omega (arith, low))
some-unfinished offset (b ∷ rest) low e = grind (arith, e)

is-none : (f : Option FeedFault) → is_some f ≡ false → f ≡ None
is-none None h = refl
is-none (Some why) h = absurd cc

module _ (form : Form) (had left old mid : Option (List ℕ)) (good : Bool) (reads : ℕ) (going : IsGoing form StreamTells had left old mid good reads) (kept : List ℕ) (offset : ℕ) (is_rest : going.tells.rest ≡ kept) (none : going.tells.fault ≡ None) (is_offset : offset ≡ octets_in going.tells.messages) where
  last-is : unfinished_entries offset kept None ≡ going.last
  last-is = ap (λ n. unfinished_entries n kept None) is_offset ∙ ap (λ k. unfinished_entries (octets_in going.tells.messages) k None) (sym is_rest) ∙ ap (λ f. unfinished_entries (octets_in going.tells.messages) going.tells.rest f) (sym none) ∙ sym going.tells.is_last

  -- ---- the reader was at its end
  module _ (now : Option (List ℕ)) (count : ℕ) (room : List ℕ) (is_zero : count ≡ 0) (roomy : 0 < length room) (given : Consumes left now (take count room)) (end : count ≡ 0 → 0 < length room → IsAtEnd now) (new : Option (List ℕ)) where
    untold : (f : JudgingFault) → IsRestUntold form kept offset mid new f → IsUnjudged form StreamTells had now old new f
    untold fault.OutOfMemory u = short-end form StreamTells had left old mid good reads going now count room is_zero roomy given end new (subst (λ es. es ≢ []) last-is (some-unfinished offset kept u.1)) u.0
    untold fault.Read u = absurd u
    untold fault.Write u = cut-end form StreamTells had left old mid good reads going now count room is_zero roomy given end new (subst (λ es. IsFront (entries_text form es) mid new) last-is u)
    untold fault.TooLong u = absurd u

    -- what is left was told, or it was not
    pub stream-ended : (r : Result Bool JudgingFault) → MatchResult r (λ ends. Appends mid new (entries_text form (unfinished_entries offset kept None)) × (ends ≡ (good && are_good (unfinished_entries offset kept None)))) (λ f. IsRestUntold form kept offset mid new f)
        → MatchResult r (λ ends. IsJudged form StreamTells had now old new ends) (λ f. IsUnjudged form StreamTells had now old new f)
    stream-ended (Ok ends) h =
        let all = finished form StreamTells had left old mid good reads going now count room is_zero roomy given end new (are_good (unfinished_entries offset kept None)) (subst (λ es. Appends mid new (entries_text form es)) last-is h.0) (ap are_good last-is) in
        subst (λ (b : Bool). IsJudged form StreamTells had now old new b) (sym h.1) all
    stream-ended (Err f) h = untold f h

  -- ---- a piece was read
  module _ (now : Option (List ℕ)) (piece : List ℕ) (read : Consumes left now piece) (some : 0 < length piece) (new : Option (List ℕ)) where
    abbrev tells : (later made : _) (next : ℕ) (f : Option FeedFault) → TakesOctets (kept ++ piece) offset later next f made → StreamTells (going.input ++ piece) (going.entries ++ made) (unfinished_entries next later f)
    tells later made next f takes = tell-more going.input going.entries going.last piece later made going.tells kept offset next f is_rest none is_offset takes

    -- the text of what it makes whole was not written
    pub stream-untaken : (f : JudgingFault) → AreOctetsUntaken form (kept ++ piece) offset mid new f → IsUnjudged form StreamTells had now old new f
    stream-untaken fault.OutOfMemory u = short-piece form StreamTells had left old mid good reads going now piece read some new u
    stream-untaken fault.Read u = absurd u
    stream-untaken fault.Write u = cut-piece form StreamTells had left old mid good reads going now piece read some new u.made _ (tells u.kept u.made u.next u.fault u.takes) u.written
    stream-untaken fault.TooLong u = absurd u

    module _ (later : List ℕ) (next : ℕ) (f : Option FeedFault) (judged : Bool) (w : WritesOctets form (kept ++ piece) offset later next f mid new judged) where
      -- it was, and a fault stands
      pub stream-stopped : is_some f ≡ true → IsJudged form StreamTells had now old new (good && judged)
      stream-stopped stands = stopped form StreamTells had left old mid good reads going now piece read some new judged w.made
          (subst (StreamTells (going.input ++ piece) (going.entries ++ w.made)) (none-last next later f stands) (tells later w.made next f w.takes))
          (broken-behind going.entries _ w.made next later f stands w.takes.are_made) w.written w.verdict

      -- it was, and none does
      pub stream-goes-on : is_some f ≡ false → (more : IsGoing form StreamTells had now old new (good && judged) (reads + 1)) × (more.tells.rest ≡ later) × (more.tells.fault ≡ None) × (next ≡ octets_in more.tells.messages)
      stream-goes-on stands = (
        goes-on form StreamTells had left old mid good reads going now piece read some new judged w.made _ (tells later w.made next f w.takes) w.written w.verdict,
        refl,
        is-none f stands,
        w.takes.is_next ∙ ap (λ n. n + octets_in w.takes.messages) is_offset ∙ sym (octets-append going.tells.messages w.takes.messages),
      )
