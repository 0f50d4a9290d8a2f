-- The command is one of those of which `clap` says what their words give.
use Rattle.std.proofs.Common.{◌≡◌, ◌≢◌, ◌⊎◌, ◌∙◌, List, [], ◌∷◌, Result, Ok, Err, ap, inl, inr, false, true, refl, subst}
use Rattle.clap.specs.Kinds.{HasKind, Kinds}
use Rattle.clap.specs.Simple.{is_simple}
use Rattle.clap.specs.Words.{is_simple_and_free, kind_of}
use Rattle.clap.specs.declared.error.Error.{Error}
use Rattle.clap.specs.declared.error.kind.ErrorKind.TheVariants as kind
use Rattle.clap.specs.Simple.{matches_of}
use Rattle.clap.specs.Words.{Row, Text, fault_of}
use Rattle.std.specs.Prelude.{MatchResult, option_map}
use Rattle.tcap_judging.specs.CommandLine.{Ask, AskNames, AskNothing, is_mixed, judge_app, names_by, request_by}
use Rattle.tcap_judging.specs.declared.fault.JudgingFault.TheVariants as fault
use Rattle.tcap_judging.specs.declared.refusal.Refusal.{Refusal}
use Rattle.tcap_judging.specs.declared.refusal.Refusal.TheVariants as refusal
use Rattle.tcap_judging.specs.declared.request.Asked.{Asked}

pub is-simple : is_simple judge_app ≡ true
unfolding judge_app
is-simple = refl

pub is-free : is_simple_and_free judge_app ≡ true
unfolding judge_app
is-free = refl

-- an error that isn't want of memory has one of the kinds
pub refused : (kinds : Kinds) (e : Error) → HasKind kinds e → (kind_of e ≡ kind.OutOfMemory → ⊥) → kinds ≢ []
refused [] e (inl memory) other none = other memory
refused [] e (inr among) other none = among
refused (k ∷ kinds) e h other none = absurd cc

-- what the options ask for is what the words do
pub asked-words : (words : List Text) (rows : List Row) (r : Result Asked Refusal) → rows ≡ matches_of judge_app words → fault_of judge_app words ≡ []
    → MatchResult r (λ asked. (is_mixed rows ≡ false) × (asked.request ≡ request_by rows) × (option_map (λ t. t.now) asked.names ≡ names_by rows)) (λ f. (f ≡ refusal.BadCommand) × (is_mixed rows ≡ true))
    → MatchResult r (λ asked. Ask words asked.request × AskNames words (option_map (λ t. t.now) asked.names)) (λ f. (f ≡ refusal.Fault fault.OutOfMemory) ⊎ ((f ≡ refusal.BadCommand) × AskNothing words))
asked-words words rows (Ok asked) same free h =
    ((free, subst (λ (r : List Row). is_mixed r ≡ false) same h.0, h.1 ∙ ap request_by same), h.2 ∙ ap names_by same)
asked-words words rows (Err f) same free h = inr (h.0, inr (subst (λ (r : List Row). is_mixed r ≡ true) same h.1))
