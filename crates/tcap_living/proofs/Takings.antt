-- Lines that are answered one after the other, as octets come.
use Rattle.std.proofs.Common.{◌≡◌, ◌<◌, ◌≤◌, ◌+◌, ◌++◌, ◌∙◌, ◌&&◌, ℕ, Bool, List, [], ◌∷◌, length, Option, Some, None, sym, ap, subst, arith}
use Rattle.std.proofs.lemmas.List.{append_assoc, append-nil, length-append}
use Rattle.std.proofs.KnownBytes.{Appends-nil, Appends-trans}
use Rattle.std.specs.Io.KnownBytes.{Appends}
use Rattle.std.specs.Prelude.{IfSome, MatchOption}
use Rattle.ber_core.specs.Place.{Slice}
use Rattle.tcap_model.specs.Histories.History.{History}
use Rattle.tcap_play.specs.Pieces.{left, pieces, pieces_left}
use Rattle.tcap_text.specs.declared.fault.PlayFault.{PlayFault}
use Rattle.tcap_text.specs.declared.fault.PlayFault.TheVariants as fault
use Rattle.tcap_living.specs.declared.format.Format.{Format}
use Rattle.tcap_living.specs.Asking.{Answers}
use Rattle.tcap_living.specs.LiveText.{are_good, history_from, line_text, text_from}
use Rattle.tcap_living.specs.Session.{AnswersHeld, HasAnswered, Holds, IsStopped, IsTaken, IsUnanswered, IsUnheld, IsUntaken, continued}
use Rattle.tcap_living.specs.declared.session.Session.{Session}
use Rattle.tcap_living.proofs.LivedTexts.{good-behind, history-append, history-behind, text-behind, text-none}

-- the line that is held was answered
pub answers_held : {A : Type 0} {format : Format} (start : History) (lines : List (List ℕ)) (old new : Session A) (good : Bool) (text : List ℕ) (before after : Option (List ℕ))
    → HasAnswered start lines old → Answers format (history_from start lines) old.number old.line.items good new.engine [] text
    → new.number ≡ old.number + 1 → new.good ≡ (old.good && good) → new.line.items ≡ [] → Appends before after text
    → AnswersHeld format start lines old new before after
answers_held {format = format} start lines old new good text before after has answers number verdict held written =
    let line = old.line.items in
    record {
      answered = record {
        stands = rw (history-behind start lines line) answers.stands;
        is_number = omega (arith, number, has.is_number, length-append {A = List ℕ} lines (line ∷ []));
        verdict = verdict ∙ ap (λ b. b && good) has.verdict ∙ ap (λ b. are_good lines && b) answers.verdict ∙ sym (good-behind lines line);
      };
      prints = subst (Appends before after) (answers.prints ∙ ap (λ n. line_text format n (history_from start lines) line) has.is_number) written;
      is_held = held;
    }

-- what was taken of octets so far: lines were answered, and one is held
pub record IsTaking {A : Type 0} (format : Format) (start : History) (answered : List (List ℕ)) (held piece : List ℕ) (rest : Option Slice) (session : Session A) (before now : Option (List ℕ)) : Type 0 where
  pub told : List (List ℕ)
  pub are_lines : continued held (pieces 10 piece) ≡ told ++ (session.line.items ∷ pieces_left 10 rest)
  pub has_answered : HasAnswered start (answered ++ told) session
  pub prints : Appends before now (text_from format (1 + length answered) (history_from start answered) told)

-- the first piece, and those behind it
pub first-left : (mark : ℕ) (octets part : List ℕ) (more : Option Slice)
    → MatchOption more (pieces mark octets ≡ part ∷ []) (λ rest. pieces mark octets ≡ part ∷ pieces mark rest.now)
    → pieces mark octets ≡ part ∷ pieces_left mark more
first-left mark octets part None cut = cut
first-left mark octets part (Some rest) cut = cut

-- so many pieces are left at most
pub few-left : (more : Option Slice) (n : ℕ) → IfSome more (λ rest. length rest.now < n) → left more ≤ n
few-left None n shorter = omega arith
few-left (Some rest) n shorter = omega (arith, shorter)

-- why octets are not held stops the line that they would be of
unheld : (format : Format) (h : History) (number : ℕ) (line : List ℕ) (now : Option (List ℕ)) (f : PlayFault) → IsUnheld line f → IsStopped format h number line now now f
unheld format h number line now fault.OutOfMemory why = (Appends-nil now, why)
unheld format h number line now fault.Read why = why
unheld format h number line now fault.Write why = absurd why
unheld format h number line now fault.TooLong why = (Appends-nil now, why)

-- and so does why it is not answered
stopped-unanswered : (format : Format) (h : History) (number : ℕ) (line : List ℕ) (old new : Option (List ℕ)) (f : PlayFault) → IsUnanswered line (line_text format number h line) old new f → IsStopped format h number line old new f
stopped-unanswered format h number line old new fault.OutOfMemory why = why
stopped-unanswered format h number line old new fault.Read why = why
stopped-unanswered format h number line old new fault.Write why = why
stopped-unanswered format h number line old new fault.TooLong why = absurd why

module _ {A : Type 0} (start : History) where
  -- holding octets changes nothing of what was answered
  kept : (lines : List (List ℕ)) (part : List ℕ) (old new : Session A) → HasAnswered start lines old → Holds part old new → HasAnswered start lines new
  kept lines part old new has holds = record {
    stands = rw holds.is_engine has.stands;
    is_number = holds.is_number ∙ has.is_number;
    verdict = holds.verdict ∙ has.verdict;
  }

module _ {A : Type 0} {format : Format} (start : History) where
  module _ (answered : List (List ℕ)) (old : Session A) (piece : List ℕ) (before : Option (List ℕ)) where
    -- the first part is held
    pub begun : (part : List ℕ) (more : Option Slice) (new : Session A) → HasAnswered start answered old → pieces 10 piece ≡ part ∷ pieces_left 10 more → Holds part old new
        → IsTaking format start answered old.line.items piece more new before before
    begun part more new has cut holds = record {
      told = [];
      are_lines = ap (continued old.line.items) cut ∙ ap (λ line. line ∷ pieces_left 10 more) (sym holds.is_line);
      has_answered = subst (λ lines. HasAnswered start lines new) (sym (append-nil answered)) (kept start answered part old new has holds);
      prints = subst (Appends before before) (sym (text-none format (1 + length answered) (history_from start answered))) (Appends-nil before);
    }

    -- it isn't
    pub not_begun : (part : List ℕ) (more : Option Slice) (f : PlayFault) → pieces 10 piece ≡ part ∷ pieces_left 10 more → IsUnheld (old.line.items ++ part) f
        → IsUntaken format start answered old.line.items piece before before f
    not_begun part more f cut why = record {
      told = [];
      line = old.line.items ++ part;
      later = pieces_left 10 more;
      are_lines = ap (continued old.line.items) cut;
      mid = before;
      prints = subst (Appends before before) (sym (text-none format (1 + length answered) (history_from start answered))) (Appends-nil before);
      stopped = unheld format (history_from start (answered ++ [])) (1 + length (answered ++ [])) (old.line.items ++ part) before f why;
    }

    -- all octets were taken
    pub over : (rest : Option Slice) (now : Session A) (after : Option (List ℕ)) → rest ≡ None → IsTaking format start answered old.line.items piece rest now before after
        → IsTaken format start answered piece old now before after
    over rest now after none taking = record {
      told = taking.told;
      are_lines = taking.are_lines ∙ ap (λ r. taking.told ++ (now.line.items ∷ pieces_left 10 r)) none;
      has_answered = taking.has_answered;
      prints = taking.prints;
    }

    module _ (octets : Slice) (now : Session A) (mid : Option (List ℕ)) (taking : IsTaking format start answered old.line.items piece (Some octets) now before mid) where
      abbrev line : List ℕ
      line = now.line.items

      abbrev lines : List (List ℕ)
      lines = answered ++ taking.told

      -- the line that is held was not answered
      pub unanswered : (after : Option (List ℕ)) (f : PlayFault) → IsUnanswered line (line_text format (1 + length lines) (history_from start lines) line) mid after f
          → IsUntaken format start answered old.line.items piece before after f
      unanswered after f why = record {
        told = taking.told;
        line = line;
        later = pieces 10 octets.now;
        are_lines = taking.are_lines;
        mid = mid;
        prints = taking.prints;
        stopped = stopped-unanswered format (history_from start lines) (1 + length lines) line mid after f why;
      }

      module _ (next : Session A) (after : Option (List ℕ)) (does : AnswersHeld format start lines now next mid after) (part : List ℕ) (more : Option Slice) (cut : pieces 10 octets.now ≡ part ∷ pieces_left 10 more) where
        more_prints : Appends before after (text_from format (1 + length answered) (history_from start answered) (taking.told ++ (line ∷ [])))
        more_prints =
            let number : 1 + length lines ≡ (1 + length answered) + length taking.told = omega (arith, length-append {A = List ℕ} answered taking.told) in
            let text = ap (λ n. line_text format n (history_from start lines) line) number ∙ ap (λ h. line_text format ((1 + length answered) + length taking.told) h line) (history-append start answered taking.told) in
            subst (Appends before after)
            (ap (λ t. text_from format (1 + length answered) (history_from start answered) taking.told ++ t) text ∙ sym (text-behind format (1 + length answered) (history_from start answered) taking.told line))
            (Appends-trans before mid after _ _ taking.prints does.prints)

        more_answered : HasAnswered start (answered ++ (taking.told ++ (line ∷ []))) next
        more_answered = subst (λ ls. HasAnswered start ls next) (append_assoc answered taking.told (line ∷ [])) does.answered

        -- it was, and the next part is held
        pub goes_on : (new : Session A) → Holds part next new → IsTaking format start answered old.line.items piece more new before after
        goes_on new holds = record {
          told = taking.told ++ (line ∷ []);
          are_lines =
              taking.are_lines
              ∙ ap (λ p. taking.told ++ (line ∷ p)) (cut ∙ ap (λ l. l ∷ pieces_left 10 more) (sym (holds.is_line ∙ ap (λ l. l ++ part) does.is_held)))
              ∙ sym (append_assoc taking.told (line ∷ []) (new.line.items ∷ pieces_left 10 more));
          has_answered = kept start _ part next new more_answered holds;
          prints = more_prints;
        }

        -- it was, and the next part isn't held
        pub not_held : (f : PlayFault) → IsUnheld (next.line.items ++ part) f → IsUntaken format start answered old.line.items piece before after f
        not_held f why = record {
          told = taking.told ++ (line ∷ []);
          line = next.line.items ++ part;
          later = pieces_left 10 more;
          are_lines =
              taking.are_lines
              ∙ ap (λ p. taking.told ++ (line ∷ p)) (cut ∙ ap (λ l. l ∷ pieces_left 10 more) (sym (ap (λ l. l ++ part) does.is_held)))
              ∙ sym (append_assoc taking.told (line ∷ []) ((next.line.items ++ part) ∷ pieces_left 10 more));
          mid = after;
          prints = more_prints;
          stopped = unheld format (history_from start (answered ++ (taking.told ++ (line ∷ [])))) (1 + length (answered ++ (taking.told ++ (line ∷ [])))) (next.line.items ++ part) after f why;
        }
