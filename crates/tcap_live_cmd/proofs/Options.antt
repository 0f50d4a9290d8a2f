-- What options ask for, by their values.
use Rattle.std.proofs.Common.{◌≡◌, ◌⊎◌, ◌∙◌, ℕ, List, [], Option, Some, None, Result, inl, inr, refl, sym, ap, codes}
use Rattle.std.proofs.KnownBytes.{Keeps-refl}
use Rattle.std.specs.Option.{option_map, ok_or}
use Rattle.std.specs.Prelude.{IfSome, MatchResult}
use Rattle.clap.specs.Words.{Row, Text, fault_of, matches_of}
use Rattle.tcap_live_cmd.specs.Command.{IsRefusal}
use Rattle.tcap_live_cmd.specs.CommandLine.{Ask, AskNothing, IsStarted, asked, asked_by, asked_in, live_app}
use Rattle.tcap_live_cmd.specs.declared.refusal.Refusal.{Refusal}
use Rattle.tcap_live_cmd.specs.declared.refusal.Refusal.TheVariants as refusal
use Rattle.tcap_live_cmd.specs.declared.request.Request.{Request}

-- the same values ask for the same
pub asked-same : (first second : Text → Option Text) → ((name : Text) → first name ≡ second name) → asked_by first ≡ asked_by second
asked-same first second same =
    rw (same (codes "json"), same (codes "help"), same (codes "version"), same (codes "dialogues"), same (codes "reject"), same (codes "idle"), same (codes "first-dialogue"), same (codes "first-number")) refl

-- what the matches of words ask for the words ask for
pub asked-words : (words : List Text) (rows : List Row) (request : Option Request) (r : Result Request Refusal) → r ≡ ok_or request refusal.BadCommand
    → IfSome request IsStarted → option_map asked request ≡ asked_in rows → rows ≡ matches_of live_app words → fault_of live_app words ≡ []
    → MatchResult r (λ request. IsStarted request × Ask words (asked request))
    (λ why. (why ≡ refusal.OutOfMemory) ⊎ ((why ≡ refusal.BadCommand) × AskNothing words))
asked-words words rows None r is started asks same free = rw is (inr (refl, inr (ap asked_in (sym same) ∙ sym asks)))
asked-words words rows (Some request) r is started asks same free = rw is (started, (free, ap asked_in (sym same) ∙ sym asks))

-- why words ask for nothing is a refusal, and nothing is read or written
pub refused-words : (words : List Text) (why : Refusal) (had old : Option (List ℕ)) → (why ≡ refusal.OutOfMemory) ⊎ ((why ≡ refusal.BadCommand) × AskNothing words)
    → IsRefusal words why had had old old
refused-words words why had old (inl is) = rw is (inl (Keeps-refl old))
refused-words words why had old (inr nothing) = rw nothing.0 (nothing.1, Keeps-refl old)
