-- A net of three engines: what both ends rely on, though a third answers what nobody asked it.
use Rattle.std.proofs.Common.{◌≡◌, ℕ, zero, suc, true, List, refl, subst, arith, if◌then◌else◌}
use Rattle.std.specs.Prelude.{bytes_eq, drop, take}
use Rattle.tcap_examples.proofs.LegalHistories.{legal}
use Rattle.tcap_examples.proofs.TwoEngines.{legal-above}
use Rattle.tcap_examples.specs.Computing.{computing}
use Rattle.tcap_examples.specs.Nets.PlayedNets.{answer}
use Rattle.tcap_examples.specs.Nets.ThreeEngines.{switch, asked_register, other_register, switch_address, asked_address, three_places, answer_told, three_engines}
use Rattle.tcap_examples.specs.Values.HistoryWords.{request_pair}
use Rattle.tcap_laws.proofs.CallerLemmas.{TellsOf, apart-by, two_ends}
use Rattle.tcap_model.specs.Replies.Legal.{IsLegal}
use Rattle.tcap_model.specs.Statements.FarAnswer.{ComesFromFar, Hears}
use Rattle.tcap_model.specs.Statements.Net.{AreApart, Engine, IsCarried, IsNet, history_in, is_at}
use Rattle.tcap_model.specs.Statements.TwoEnds.{TwoEnds}
use Rattle.tcap_model.specs.Words.Address.{Address}
use Rattle.tcap_model.specs.Words.Answer.{Answer}
use Rattle.tcap_model.specs.Words.Event.{Event}

-- whose an address is
abbrev at_whose : Address → Engine
at_whose address =
    if bytes_eq address switch_address then switch
    else if bytes_eq address asked_address then asked_register else other_register

three-apart : AreApart three_places
three-apart = apart-by at_whose three_places told
  where
    told : (engine : Engine) → TellsOf at_whose engine (three_places engine)
    told zero = (refl, tt)
    told (suc zero) = (refl, tt)
    told (suc (suc zero)) = (refl, tt)
    told (suc (suc (suc number))) = tt

zero-one : switch ≡ asked_register → ⊥
zero-one same = absurd cc

one-zero : asked_register ≡ switch → ⊥
one-zero same = absurd cc

two-zero : other_register ≡ switch → ⊥
two-zero same = absurd cc

zero-two : switch ≡ other_register → ⊥
zero-two same = absurd cc

three-legal : (engine : Engine) → IsLegal (history_in three_engines engine three_engines.trace)
unfolding computing
three-legal zero = legal (history_in three_engines 0 three_engines.trace) refl refl refl refl
three-legal (suc zero) = legal (history_in three_engines 1 three_engines.trace) refl refl refl refl
three-legal (suc (suc zero)) = legal (history_in three_engines 2 three_engines.trace) refl refl refl refl
three-legal (suc (suc (suc number))) =
    legal-above (three_engines.start (suc (suc (suc number)))) 2 (suc (suc (suc number))) three_engines.trace (omega arith) refl refl

three-carried : IsCarried three_places three_engines.trace
unfolding computing
three-carried = (
  record { sender = 1; is_other = one-zero; is_from = refl; is_sent = refl },
  (
    tt,
    (
      tt,
      (
        record { sender = 0; is_other = zero-one; is_from = refl; is_sent = refl },
        (
          record { sender = 2; is_other = two-zero; is_from = refl; is_sent = refl },
          (
            tt,
            (
              tt,
              (
                record { sender = 0; is_other = zero-two; is_from = refl; is_sent = refl },
                (tt, (tt, (tt, (tt, (tt, tt))))),
              ),
            ),
          ),
        ),
      ),
    ),
  ),
)

pub three-net : IsNet three_engines
three-net = record { is_legal = three-legal; are_apart = three-apart; is_carried = three-carried }

pub three-two-ended : TwoEnds three_places three_engines.trace
three-two-ended = two_ends three_engines three-net

-- ---- where the answer comes from

pub three-origin : ComesFromFar three_places switch 1 answer answer_told.pair.event (drop 1 three_engines.trace)
unfolding computing
three-origin = record {
  far = asked_register;
  hears = record { from = asked_address; bytes = _; is_event = refl; is_from = refl };
  pair = request_pair 1 answer Answer.done;
  before = drop 3 three_engines.trace;
  happens = record { later = take 1 (drop 1 three_engines.trace); is_trace = refl };
  is_request = record { far_dialogue = 1; is_event = refl; accepted = refl; is_peer = refl; is_kept = refl };
}

same_address : {bytes other : List ℕ} {one from : Address} → Event.received one bytes ≡ Event.received from other → one ≡ from
same_address same = cc

heard-is-asked : {bytes : List ℕ} (far : Engine) → Hears three_places far (Event.received asked_address bytes)
    → far ≡ asked_register
heard-is-asked far hears =
    three-apart far 1 hears.from hears.is_from
    (subst (λ (from : Address). is_at three_places 1 from ≡ true) (same_address hears.is_event) refl)

pub three-from-asked : (source : ComesFromFar three_places switch 1 answer answer_told.pair.event (drop 1 three_engines.trace))
    → source.far ≡ asked_register
three-from-asked source = heard-is-asked source.far source.hears

-- What the tests state.
pub ruleset three_engines_work = (three-net, three-two-ended, three-origin, three-from-asked)
