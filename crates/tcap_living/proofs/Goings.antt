-- A run, by what was read and written so far.
use Rattle.std.proofs.Common.{◌≡◌, ◌<◌, ◌≤◌, ◌+◌, ◌*◌, ◌++◌, ◌∙◌, ℕ, List, [], ◌∷◌, inl, inr, length, Option, sym, ap, subst, arith}
use Rattle.std.proofs.lemmas.List.{append_assoc, append-nil, length-append}
use Rattle.std.proofs.KnownBytes.{Appends-nil, Appends-trans, Consumes-kept, Consumes-nil, Consumes-trans}
use Rattle.std.specs.Io.KnownBytes.{Appends, Consumes, IsAtEnd, Keeps}
use Rattle.tcap_model.specs.Histories.History.{History}
use Rattle.tcap_play.specs.Pieces.{lines_of}
use Rattle.tcap_text.specs.declared.fault.PlayFault.{PlayFault}
use Rattle.tcap_text.specs.declared.fault.PlayFault.TheVariants as fault
use Rattle.tcap_living.specs.declared.format.Format.{Format}
use Rattle.tcap_living.specs.LiveRun.{IsCut, IsHalted, IsLived, IsReached, IsUnlived, lines_before}
use Rattle.tcap_living.specs.LiveText.{are_good, history_from, line_text, text_from}
use Rattle.tcap_living.specs.Session.{AnswersHeld, HasAnswered, IsFrontOf, IsStopped, IsTaken, IsUnanswered, IsUntaken}
use Rattle.tcap_living.specs.declared.session.Session.{Session}
use Rattle.tcap_living.proofs.LineParts.{few-whole, lines-behind, no-octets}
use Rattle.tcap_living.proofs.LivedTexts.{text-append, text-behind, text-none}

-- all lines that ended were answered, and what follows the last of them is held; each read gave an octet, and
-- no more than 4,096
pub record IsGoing {A : Type 0} (format : Format) (start : History) (had left old now : Option (List ℕ)) (session : Session A) (reads : ℕ) : Type 0 where
  pub octets : List ℕ
  pub given : Consumes had left octets
  pub whole : List (List ℕ)
  pub are_lines : lines_of octets ≡ whole ++ (session.line.items ∷ [])
  pub answered : HasAnswered start whole session
  pub written : Appends old now (text_from format 1 start whole)
  pub many : reads ≤ length octets
  pub few : length octets ≤ 4096 * reads

-- the text of an answer that wasn't written whole
cut-of : {format : Format} (start : History) (had left old mid new : Option (List ℕ)) (reached : IsReached had left) → Appends old mid (text_from format 1 start (lines_before reached))
    → IsFrontOf (line_text format (1 + length (lines_before reached)) (history_from start (lines_before reached)) reached.line) mid new → IsCut format start had left old new
cut-of start had left old mid new reached before front = record {
  reached = reached;
  front = front.front;
  rest = front.rest;
  is_text = front.is_text;
  is_some = subst (λ t. 0 < length t) front.is_text front.is_some;
  written = Appends-trans old mid new _ _ before front.written;
}

-- a line was reached and not answered
stopped-at : (format : Format) (start : History) (had left old mid new : Option (List ℕ)) (reached : IsReached had left) (f : PlayFault) → Appends old mid (text_from format 1 start (lines_before reached))
    → IsStopped format (history_from start (lines_before reached)) (1 + length (lines_before reached)) reached.line mid new f → IsUnlived format start had left old new f
stopped-at format start had left old mid new reached fault.OutOfMemory before why = record {
  reached = reached;
  wanted = why.1;
  written = subst (Appends old new) (append-nil _) (Appends-trans old mid new _ [] before why.0);
}
stopped-at format start had left old mid new reached fault.Read before why = absurd why
stopped-at format start had left old mid new reached fault.Write before why = cut-of start had left old mid new reached before why
stopped-at format start had left old mid new reached fault.TooLong before why = inl (record {
  reached = reached;
  long = why.1;
  written = subst (Appends old new) (append-nil _) (Appends-trans old mid new _ [] before why.0);
})

module _ {A : Type 0} {format : Format} (start : History) where
  -- nothing was read
  pub begun : (had old : Option (List ℕ)) (session : Session A) → HasAnswered start [] session → session.line.items ≡ [] → IsGoing format start had had old old session 0
  begun had old session answered none = record {
    octets = [];
    given = Consumes-nil had;
    whole = [];
    are_lines = no-octets ∙ ap (λ line. line ∷ []) (sym none);
    answered = answered;
    written = subst (Appends old old) (sym (text-none format 1 start)) (Appends-nil old);
    many = omega arith;
    few = omega arith;
  }

  module _ (had left old now : Option (List ℕ)) (session : Session A) (reads : ℕ) (going : IsGoing format start had left old now session reads) where
    -- lines can be numbered
    pub room : (piece : List ℕ) → reads < 1125899906842624 → length piece ≤ 4096 → session.number + length piece ≤ 18446744073709551615
    room piece few small =
        omega (arith, few, small, going.few, going.answered.is_number, few-whole going.octets going.whole session.line.items going.are_lines)

    -- a read failed
    pub halted : (later : Option (List ℕ)) → Keeps left later → IsHalted format start had later old now
    halted later kept = record {
      octets = going.octets;
      given = Consumes-kept had left later going.octets going.given kept;
      whole = going.whole;
      held = session.line.items;
      are_lines = going.are_lines;
      written = going.written;
    }

    -- as many reads were made as may be
    pub endless : 1125899906842624 ≤ reads → IsUnlived format start had left old now fault.TooLong
    endless all = inr (record {
      halted = record { octets = going.octets; given = going.given; whole = going.whole; held = session.line.items; are_lines = going.are_lines; written = going.written };
      many = omega (arith, all, going.many);
    })

    module _ (later : Option (List ℕ)) (piece : List ℕ) (read : Consumes left later piece) where
      given-more : Consumes had later (going.octets ++ piece)
      given-more = Consumes-trans had left later going.octets piece going.given read

      -- more lines were answered
      pub goes_on : (next : Session A) (new : Option (List ℕ)) → 0 < length piece → length piece ≤ 4096 → IsTaken format start going.whole piece session next now new
          → IsGoing format start had later old new next (reads + 1)
      goes_on next new some small taken = record {
        octets = going.octets ++ piece;
        given = given-more;
        whole = going.whole ++ taken.told;
        are_lines =
            lines-behind going.octets piece going.whole session.line.items going.are_lines
            ∙ ap (λ lines. going.whole ++ lines) taken.are_lines ∙ sym (append_assoc going.whole taken.told (next.line.items ∷ []));
        answered = taken.has_answered;
        written = subst (Appends old new) (sym (text-append format 1 start going.whole taken.told)) (Appends-trans old now new _ _ going.written taken.prints);
        many = omega (arith, going.many, some, length-append going.octets piece);
        few = omega (arith, going.few, small, length-append going.octets piece);
      }

      -- or not all of them
      pub untaken : (new : Option (List ℕ)) (f : PlayFault) → length piece ≤ 4096 → IsUntaken format start going.whole session.line.items piece now new f
          → IsUnlived format start had later old new f
      untaken new f small u =
          let reached : IsReached had later = record {
            before = going.octets;
            piece = piece;
            given = given-more;
            is_piece = small;
            whole = going.whole;
            held = session.line.items;
            were_lines = going.are_lines;
            told = u.told;
            line = u.line;
            later = u.later;
            are_lines =
                lines-behind going.octets piece going.whole session.line.items going.are_lines
                ∙ ap (λ lines. going.whole ++ lines) u.are_lines ∙ sym (append_assoc going.whole u.told (u.line ∷ u.later));
          } in
          stopped-at format start had later old u.mid new reached f
          (subst (Appends old u.mid) (sym (text-append format 1 start going.whole u.told)) (Appends-trans old now u.mid _ _ going.written u.prints))
          u.stopped

    module _ (later : Option (List ℕ)) (read : Consumes left later []) where
      given-all : Consumes had later (going.octets ++ [])
      given-all = Consumes-trans had left later going.octets [] going.given read

      -- the input ended, and its last line was answered
      pub ended : (next : Session A) (new : Option (List ℕ)) → IsAtEnd later → AnswersHeld format start going.whole session next now new
          → IsLived format start had later old new next.good
      ended next new at_end does = record {
        octets = going.octets;
        given = subst (Consumes had later) (append-nil going.octets) given-all;
        at_end = at_end;
        written = subst (Appends old new)
            (sym (text-behind format 1 start going.whole session.line.items) ∙ ap (text_from format 1 start) (sym going.are_lines))
            (Appends-trans old now new _ _ going.written does.prints);
        verdict = does.answered.verdict ∙ ap are_good (sym going.are_lines);
      }

      -- or it wasn't
      pub unended : (new : Option (List ℕ)) (f : PlayFault) → IsUnanswered session.line.items (line_text format (1 + length going.whole) (history_from start going.whole) session.line.items) now new f
          → IsUnlived format start had later old new f
      unended new f why =
          let reached : IsReached had later = record {
            before = going.octets;
            piece = [];
            given = given-all;
            is_piece = omega arith;
            whole = going.whole;
            held = session.line.items;
            were_lines = going.are_lines;
            told = [];
            line = session.line.items;
            later = [];
            are_lines = ap lines_of (append-nil going.octets) ∙ going.are_lines ∙ ap (λ lines. lines ++ (session.line.items ∷ [])) (sym (append-nil going.whole));
          } in
          stopped-at format start had later old now new reached f
          (subst (λ lines. Appends old now (text_from format 1 start lines)) (sym (append-nil going.whole)) going.written)
          (subst (λ lines. IsStopped format (history_from start lines) (1 + length lines) session.line.items now new f) (sym (append-nil going.whole)) (of f why)) where
            of : (f : PlayFault) → IsUnanswered session.line.items (line_text format (1 + length going.whole) (history_from start going.whole) session.line.items) now new f
                → IsStopped format (history_from start going.whole) (1 + length going.whole) session.line.items now new f
            of fault.OutOfMemory why = why
            of fault.Read why = absurd why
            of fault.Write why = why
            of fault.TooLong why = absurd why
