use Rattle.std.proofs.Common.{◌≡◌, [], true, map, refl, subst}
use Rattle.clap.specs.Words.{HasMatchesOf, fault_of, found_of, is_simple_and_free, matches_of, rows_of}
use Rattle.tcap_live_cmd.specs.CommandLine.{live_app}
use Rattle.tcap_live_cmd.proofs.Options.{asked-words}
use Rattle.tcap_live_cmd.proofs.words.read_words.Goals as goal

pub returns-in-Ok-try_get_matches_from : goal.returns-in-Ok-try_get_matches_from
returns-in-Ok-try_get_matches_from c =
    let words = map (λ w. w.now) c.args.words.now in
    let rows = rows_of (found_of c.in-Ok-try_get_matches_from.matches) in
    let free : fault_of live_app words ≡ [] =
    subst (λ app. is_simple_and_free app ≡ true → fault_of app words ≡ []) c.in-Ok.ensures c.in-Ok-try_get_matches_from.ensures.kinds refl in
    let same : rows ≡ matches_of live_app words =
    (subst (λ app. HasMatchesOf app words c.in-Ok-try_get_matches_from.matches) c.in-Ok.ensures c.in-Ok-try_get_matches_from.ensures.matches refl).0 in
    asked-words words rows c.request_of.result c.ok_or.result c.ok_or.ensures.value c.request_of.ensures.started c.request_of.ensures.request same free
