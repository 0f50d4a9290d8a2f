-- What is done for a line.
use Rattle.std.proofs.Common.{◌≡◌, ◌++◌, ◌∙◌, ℕ, Bool, false, List, Option, Some, None, Result, IfOk, refl, ap, subst}
use Rattle.tcap_model.specs.Histories.History.{History}
use Rattle.tcap_model.specs.Table.World.{World}
use Rattle.tcap_play.specs.Pieces.{is_skipped, words_of}
use Rattle.tcap_living.specs.declared.format.Format.{Format}
use Rattle.tcap_living.specs.Asking.{Answers, DoesAtIf, DoesIf}
use Rattle.tcap_living.specs.LiveLine.{LiveLine, line_of}
use Rattle.tcap_living.specs.LiveText.{bad_line}

-- what was done for a line was done for the same line by its words
pub does_as : {E : Type 0} (format : Format) (r : Result Bool E) (number : ℕ) (line other : Option LiveLine) (old new : World) (before after : List ℕ) → line ≡ other
    → IfOk r (λ done. DoesAtIf format number line done old new before after) → IfOk r (λ done. DoesAtIf format number other done old new before after)
does_as format r number line other old new before after same done =
    subst (λ l. IfOk r (λ done. DoesAtIf format number l done old new before after)) same done

-- a line that asks for nothing is bad
pub answers_bad : {format : Format} (h : History) (number : ℕ) (line : List ℕ) (new : World) (before mid after : List ℕ) → is_skipped line ≡ false
    → DoesIf format h number (line_of (words_of line)) false new before mid → after ≡ mid ++ bad_line format number (words_of line) → Answers format h number line false new before after
answers_bad {format = format} h number line new before mid after is does told = go (line_of (words_of line)) refl does where
  go : (asked : Option LiveLine) → line_of (words_of line) ≡ asked → DoesIf format h number asked false new before mid → Answers format h number line false new before after
  go None e does = record {
    stands = rw (is, e) does.1;
    prints = rw (is, e) (told ∙ ap (λ t. t ++ bad_line format number (words_of line)) does.2);
    verdict = rw (is, e) refl;
  }
  go (Some asked) e does = absurd cc
