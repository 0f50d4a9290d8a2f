use Rattle.std.proofs.Common.{◌≡◌, ◌∙◌, [], ap, inl, inr, map, refl, subst, sym}
use Rattle.clap.specs.Kinds.{HasKind}
use Rattle.clap.specs.Simple.{HasMatchesOf, matches_of}
use Rattle.clap.specs.Words.{fault_of, found_of, is_simple_and_free, rows_of}
use Rattle.tcap_judging.proofs.Options.{asked-words, is-free, is-simple, refused}
use Rattle.tcap_judging.specs.CommandLine.{judge_app}
use Rattle.tcap_judging.proofs.words.read_words.Goals as goal

pub returns-in-Ok-try_get_matches_from : goal.returns-in-Ok-try_get_matches_from
returns-in-Ok-try_get_matches_from c =
    let words = map (λ w. w.now) c.args.words.now in
    let matches = c.in-Ok-try_get_matches_from.matches in
    let shape = c.in-Ok.ensures in
    let same : HasMatchesOf judge_app words matches = subst (λ a. HasMatchesOf a words matches) shape c.in-Ok-try_get_matches_from.ensures.matches in
    let rows : rows_of (found_of matches) ≡ matches_of judge_app words = (same is-simple).0 in
    let none : fault_of judge_app words ≡ [] = ap (λ a. fault_of a words) (sym shape) ∙ c.in-Ok-try_get_matches_from.ensures.kinds (ap is_simple_and_free shape ∙ is-free) in
    asked-words words (rows_of (found_of matches)) c.asked_of.result rows none c.asked_of.ensures

pub returns : goal.returns
returns c =
    let words = map (λ w. w.now) c.args.words.now in
    let shape = c.in-Ok.ensures in
    let kinds = c.in-Err.ensures.kinds (ap is_simple_and_free shape ∙ is-free) in
    let has : HasKind (fault_of judge_app words) c.in-Err.error = subst (λ a. HasKind (fault_of a words) c.in-Err.error) shape kinds in
    inr (refl, inl (refused (fault_of judge_app words) c.in-Err.error has (λ memory. c.in_default-kind.not-OutOfMemory (c.kind.ensures ∙ memory))))
