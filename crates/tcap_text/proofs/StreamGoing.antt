-- A stream that is read piece by piece.
use Rattle.std.proofs.Common.{◌≡◌, ◌≢◌, ◌≤◌, ◌<◌, ◌+◌, ◌++◌, ◌∙◌, ◌&&◌, ℕ, Bool, true, false, List, [], ◌∷◌, inl, inr, length, Option, Some, None, refl, sym, ap, subst, take, arith, append-nil}
use Rattle.std.proofs.KnownBytes.{Appends-nil, Appends-trans, Consumes-kept, Consumes-nil, Consumes-trans}
use Rattle.std.proofs.lemmas.List.{length-append}
use Rattle.std.proofs.lemmas.List.Folds.{list_all-append}
use Rattle.std.specs.Option.{is_some}
use Rattle.std.specs.Io.KnownBytes.{Appends, Consumes, IsAtEnd, Keeps}
use Rattle.ber_core.specs.Feeding.{Left, StandsBehind}
use Rattle.ber_core.specs.Stream.{cut_by, cut_of}
use Rattle.tcap_text.proofs.StreamEnds.{IsReady, fault-of}
use Rattle.tcap_text.proofs.StreamLines.{lines-append}
use Rattle.tcap_text.specs.StreamRun.{IsEndless, IsHalted, IsRead, IsUnstreamed}
use Rattle.tcap_text.specs.StreamSteps.{IsTaken, IsUntaken}
use Rattle.tcap_text.specs.StreamText.{all_good, verdict_lines}
use Rattle.tcap_text.specs.declared.fault.PlayFault.{PlayFault}
use Rattle.tcap_text.specs.declared.fault.PlayFault.TheVariants as fault
use Rattle.tcap_words.specs.Show.{show_is_good}

not-none : {A : Type 0} (o : Option A) → is_some o ≡ true → o ≢ None
not-none None h e = absurd cc
not-none (Some x) h e = absurd cc

is-none : {A : Type 0} (o : Option A) → is_some o ≡ false → o ≡ None
is-none None h = refl
is-none (Some x) h = absurd cc

-- no fault stands, the lines of all messages were written, and each read gave an octet
pub record IsGoing (had left old new : Option (List ℕ)) (feed : Left) (good : Bool) (reads : ℕ) : Type 0 where
  pub stream : List ℕ
  pub given : Consumes had left stream
  pub stands : StandsBehind stream feed
  pub no_fault : feed.fault ≡ None
  pub written : Appends old new (verdict_lines (cut_of stream).messages)
  pub verdict : good ≡ all_good (cut_of stream).messages
  pub many : reads ≤ length stream

-- nothing was read
pub begun : (had old : Option (List ℕ)) (feed : Left) → StandsBehind [] feed → IsGoing had had old old feed true 0
unfolding cut_by
begun had old feed stands = record {
  stream = [];
  given = Consumes-nil had;
  stands = stands;
  no_fault = fault-of [] feed stands;
  written = Appends-nil old;
  verdict = refl;
  many = omega arith;
}

module _ (had left old mid : Option (List ℕ)) (feed : Left) (good : Bool) (reads : ℕ) (going : IsGoing had left old mid feed good reads) where
  pub no_fault-of : (cut_of going.stream).fault ≡ None
  no_fault-of = sym (fault-of going.stream feed going.stands) ∙ going.no_fault

  -- a read failed
  pub halted : (now : Option (List ℕ)) → Keeps left now → IsHalted had now old mid
  halted now kept = record {
    stream = going.stream;
    given = Consumes-kept had left now going.stream going.given kept;
    no_fault = no_fault-of;
    written = going.written;
  }

  -- as many reads were made as may be
  pub endless : 1000000 ≤ reads → IsEndless had left old mid
  endless all = record {
    halted = record { stream = going.stream; given = going.given; no_fault = no_fault-of; written = going.written };
    many = omega (arith, all, going.many);
  }

  -- the reader was at its end
  pub at_end : (now : Option (List ℕ)) (count : ℕ) (room : List ℕ) → count ≡ 0 → 0 < length room → Consumes left now (take count room) → (count ≡ 0 → 0 < length room → IsAtEnd now) → IsReady had now old mid good feed
  at_end now count room is_zero roomy none end =
      let ended = end is_zero roomy in
      let none : Consumes left now [] = subst (λ n. Consumes left now (take n room)) is_zero none in
      let same : going.stream ++ [] ≡ going.stream = append-nil going.stream in
      record {
        read = record { before = going.stream; piece = []; given = Consumes-trans had left now going.stream [] going.given none; is_piece = omega arith; no_fault = no_fault-of };
        over = inl (refl, ended);
        wanted = inr (refl, ended);
        stands = subst (λ (s : List ℕ). StandsBehind s feed) (sym same) going.stands;
        written = subst (λ (s : List ℕ). Appends old mid (verdict_lines (cut_of s).messages)) (sym same) going.written;
        verdict = subst (λ (s : List ℕ). good ≡ all_good (cut_of s).messages) (sym same) going.verdict;
      }

  module _ (now : Option (List ℕ)) (piece : List ℕ) (read : Consumes left now piece) (some : 0 < length piece) (few : length piece ≤ 4096) where
    not-empty : (xs : List ℕ) → 0 < length xs → xs ≢ []
    not-empty [] h e = absurd (omega (arith, h))
    not-empty (x ∷ xs) h e = absurd cc

    abbrev pub is_read : IsRead had now
    is_read = record { before = going.stream; piece = piece; given = Consumes-trans had left now going.stream piece going.given read; is_piece = few; no_fault = no_fault-of }

    module _ (new : Option (List ℕ)) (later : Left) (judged : Bool) (taken : IsTaken going.stream piece later mid new judged) where
      all_lines : Appends old new (verdict_lines (cut_of (going.stream ++ piece)).messages)
      all_lines = subst (Appends old new) (sym (lines-append (cut_of going.stream).messages taken.completed) ∙ ap verdict_lines (sym taken.are_completed.messages)) (Appends-trans old mid new _ _ going.written taken.written)

      all_verdict : (good && judged) ≡ all_good (cut_of (going.stream ++ piece)).messages
      all_verdict = ap (λ (b : Bool). b && judged) going.verdict ∙ ap (λ (b : Bool). all_good (cut_of going.stream).messages && b) taken.verdict ∙ sym (list_all-append show_is_good (cut_of going.stream).messages taken.completed) ∙ ap all_good (sym taken.are_completed.messages)

      -- a fault stands
      pub faulty : is_some later.fault ≡ true → IsReady had now old new (good && judged) later
      faulty fault = record {
        read = is_read;
        over = inr (λ e. not-none later.fault fault (fault-of (going.stream ++ piece) later taken.stands ∙ e));
        wanted = inl (not-empty piece some);
        stands = taken.stands;
        written = all_lines;
        verdict = all_verdict;
      }

      -- none does
      pub goes-on : is_some later.fault ≡ false → IsGoing had now old new later (good && judged) (reads + 1)
      goes-on none = record {
        stream = going.stream ++ piece;
        given = Consumes-trans had left now going.stream piece going.given read;
        stands = taken.stands;
        no_fault = is-none later.fault none;
        written = all_lines;
        verdict = all_verdict;
        many = omega (arith, going.many, some, length-append going.stream piece);
      }

    -- not every line was written
    pub untaken : (new : Option (List ℕ)) (f : PlayFault) → IsUntaken going.stream piece mid new f → IsUnstreamed had now old new f
    untaken new fault.OutOfMemory u = record {
      read = is_read;
      wanted = inl (not-empty piece some);
      told = u.untold.told;
      untold = u.untold.untold;
      are_messages = u.are_completed.messages ∙ ap (λ ms. (cut_of going.stream).messages ++ ms) u.untold.are_messages;
      written = subst (Appends old new) (sym (lines-append (cut_of going.stream).messages u.untold.told)) (Appends-trans old mid new _ _ going.written u.untold.written);
    }
    untaken new fault.Read u = absurd u.untold
    untaken new fault.Write u = record {
      read = is_read;
      last = [];
      is_last = inl refl;
      front = u.untold.front;
      rest = u.untold.rest;
      is_text = append-nil _ ∙ ap verdict_lines u.are_completed.messages ∙ lines-append (cut_of going.stream).messages u.completed ∙ ap (λ t. verdict_lines (cut_of going.stream).messages ++ t) u.untold.is_text;
      is_cut = u.untold.is_cut;
      written = Appends-trans old mid new _ _ going.written u.untold.written;
    }
    untaken new fault.TooLong u = absurd u.untold
