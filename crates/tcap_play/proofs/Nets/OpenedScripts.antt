-- What a script opens with: a limit that an engine may have, and lines that the script has.
use Rattle.std.proofs.Common.{◌≡◌, ◌+◌, nat_le, ℕ, Bool, true, List, [], ◌∷◌, Option, Some, None, refl, inl, inr}
use Rattle.std.specs.Prelude.{bytes_eq, codes}
use Rattle.std.specs.List.{list_all}
use Rattle.std.proofs.lemmas.Bool.{and_parts, cases_Bool}
use Rattle.tcap_invocation.specs.Stage.{moment_limit}
use Rattle.tcap_model.specs.Replies.Legal.{is_start}
use Rattle.tcap_play.specs.Opening.{limit_in, limit_of, opened_by, opening_from}
use Rattle.tcap_play.specs.Pieces.{is_skipped, words_of}
use Rattle.tcap_play.specs.Play.{play_start}
use Rattle.tcap_play.specs.ScriptWords.{idle_limit_of}
use Rattle.tcap_play.proofs.Nets.WordRanges.{Holds, either, idle-limit-in}

-- an engine may have the limits of a play
pub play-starts : (idle_ms : ℕ) → nat_le idle_ms moment_limit ≡ true → is_start (play_start idle_ms) ≡ true
play-starts idle_ms low = rw low refl

-- the limit that a play begins with is one that an engine may have
limit-in : (words : List (List ℕ)) → Holds (λ (x : ℕ). nat_le x moment_limit ≡ true) (limit_in words)
limit-in [] = tt
limit-in (first ∷ []) = tt
limit-in (first ∷ second ∷ []) =
    either (λ (x : ℕ). nat_le x moment_limit ≡ true) (bytes_eq first (codes "idle")) (idle_limit_of second) None (idle-limit-in second) tt
limit-in (first ∷ second ∷ third ∷ more) = tt

opened-low : (passed : ℕ) (line : List ℕ) (lines : List (List ℕ)) (limit : Option ℕ)
    → Holds (λ (x : ℕ). nat_le x moment_limit ≡ true) limit
    → nat_le (opened_by passed line lines limit).idle_ms moment_limit ≡ true
opened-low passed line lines None low = refl
opened-low passed line lines (Some idle_ms) low = low

pub opening-low : (passed : ℕ) (lines : List (List ℕ)) → nat_le (opening_from passed lines).idle_ms moment_limit ≡ true
unfolding opening_from
opening-low passed [] = refl
opening-low passed (line ∷ lines) = elim (cases_Bool (is_skipped line)) [
  | inl is ↦ rw is (opening-low (passed + 1) lines)
  | inr isnt ↦ rw isnt (opened-low passed line lines (limit_of line) (limit-in (words_of line)))
]

-- what holds of all lines of a script holds of those of its play
opened-all : (test : List ℕ → Bool) (passed : ℕ) (line : List ℕ) (lines : List (List ℕ)) (limit : Option ℕ)
    → list_all test (line ∷ lines) ≡ true → list_all test (opened_by passed line lines limit).lines ≡ true
opened-all test passed line lines None all = all
opened-all test passed line lines (Some idle_ms) all = (and_parts (test line) (list_all test lines) all).1

pub opening-all : (test : List ℕ → Bool) (passed : ℕ) (lines : List (List ℕ)) → list_all test lines ≡ true
    → list_all test (opening_from passed lines).lines ≡ true
unfolding opening_from
opening-all test passed [] all = refl
opening-all test passed (line ∷ lines) all = elim (cases_Bool (is_skipped line)) [
  | inl is ↦ rw is (opening-all test (passed + 1) lines (and_parts (test line) (list_all test lines) all).1)
  | inr isnt ↦ rw isnt (opened-all test passed line lines (limit_of line) all)
]
