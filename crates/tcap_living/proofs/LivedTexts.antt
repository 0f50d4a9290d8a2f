-- Texts and histories of lines, one behind the other.
use Rattle.std.proofs.Common.{◌≡◌, ◌+◌, ◌++◌, ◌∙◌, ◌&&◌, ℕ, suc, Bool, true, false, List, [], ◌∷◌, length, refl, sym, ap, arith}
use Rattle.std.proofs.lemmas.List.{append_assoc, append-nil}
use Rattle.std.proofs.lemmas.List.Folds.{list_all-append}
use Rattle.tcap_model.specs.Histories.History.{History}
use Rattle.tcap_living.specs.declared.format.Format.{Format}
use Rattle.tcap_living.specs.LiveText.{are_good, history_from, is_good_line, line_after, line_text, text_from}

-- the text of lines and of those behind them
pub text-append : (format : Format) (number : ℕ) (h : History) (lines later : List (List ℕ))
    → text_from format number h (lines ++ later) ≡ text_from format number h lines ++ text_from format (number + length lines) (history_from h lines) later
unfolding text_from history_from
text-append format number h [] later = ap (λ n. text_from format n h later) (omega arith)
text-append format number h (line ∷ lines) later =
    let next : (number + 1) + length lines ≡ number + suc (length lines) = omega arith in
    ap (λ t. line_text format number h line ++ t) (text-append format (number + 1) (line_after h line) lines later)
    ∙ sym (append_assoc (line_text format number h line) (text_from format (number + 1) (line_after h line) lines) _)
    ∙ ap (λ n. (line_text format number h line ++ text_from format (number + 1) (line_after h line) lines) ++ text_from format n (history_from (line_after h line) lines) later) next

-- the text of one line
pub text-one : (format : Format) (number : ℕ) (h : History) (line : List ℕ) → text_from format number h (line ∷ []) ≡ line_text format number h line
unfolding text_from
text-one format number h line = append-nil (line_text format number h line)

-- no lines have no text
pub text-none : (format : Format) (number : ℕ) (h : History) → text_from format number h [] ≡ []
unfolding text_from
text-none format number h = refl

-- the text of lines and of one behind them
pub text-behind : (format : Format) (number : ℕ) (h : History) (lines : List (List ℕ)) (line : List ℕ)
    → text_from format number h (lines ++ (line ∷ [])) ≡ text_from format number h lines ++ line_text format (number + length lines) (history_from h lines) line
text-behind format number h lines line =
    text-append format number h lines (line ∷ []) ∙ ap (λ t. text_from format number h lines ++ t) (text-one format (number + length lines) (history_from h lines) line)

-- the history after lines and those behind them
pub history-append : (h : History) (lines later : List (List ℕ)) → history_from h (lines ++ later) ≡ history_from (history_from h lines) later
unfolding history_from
history-append h [] later = refl
history-append h (line ∷ lines) later = history-append (line_after h line) lines later

-- the history after no line
pub history-none : (h : History) → history_from h [] ≡ h
unfolding history_from
history-none h = refl

-- the history after lines and one behind them
pub history-behind : (h : History) (lines : List (List ℕ)) (line : List ℕ) → history_from h (lines ++ (line ∷ [])) ≡ line_after (history_from h lines) line
unfolding history_from
history-behind h lines line = history-append h lines (line ∷ [])

and-true : (b : Bool) → (b && true) ≡ b
and-true true = refl
and-true false = refl

-- whether lines and one behind them are good
pub good-behind : (lines : List (List ℕ)) (line : List ℕ) → are_good (lines ++ (line ∷ [])) ≡ (are_good lines && is_good_line line)
good-behind lines line =
    list_all-append is_good_line lines (line ∷ []) ∙ ap (λ b. are_good lines && b) (and-true (is_good_line line))
