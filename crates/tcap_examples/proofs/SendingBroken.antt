-- Histories in which components aren't sent once and in order.
use Rattle.std.proofs.Common.{◌≡◌, ℕ, true, List, [], ◌∷◌, ◌++◌, length, get_or, flat_map, None, refl, inl, inr}
use Rattle.std.specs.Prelude.{take, drop, pos}
use Rattle.std.specs.List.{AllByRecursion}
use Rattle.tcap_component.specs.Component.{ComponentParts}
use Rattle.tcap_component.specs.Written.{written_component}
use Rattle.tcap_invocation.specs.declared.class.Class.TheVariants.{One}
use Rattle.tcap_model.specs.Words.Answer.{Answer}
use Rattle.tcap_examples.proofs.LegalHistories.{goes_wrong, goes_wrong_by}
use Rattle.tcap_examples.specs.Computing.{computing}
use Rattle.tcap_model.specs.Words.Event.{Event}
use Rattle.tcap_examples.specs.Values.DialogueValues.{code}
use Rattle.tcap_model.specs.Histories.Pair.{Pair, Past}
use Rattle.tcap_model.specs.Words.Request.{Request, ComponentRequest}
use Rattle.tcap_model.specs.Statements.SentInOrder.{octets_in, octets_sent, components_submitted, SentInOrder}
use Rattle.tcap_model.specs.Statements.Submitted.{is_sending}
use Rattle.tcap_examples.specs.Statements.SendingExamples.{invoke_of, first_sent, first_message, again_sent, again_message, sent_twice, swapped_sent, swapped_message, sent_swapped, sent_though_given_up, bare_sent, bare_message, not_sent}
use Rattle.tcap_examples.specs.Values.HistoryWords.{dialogue_born, invoke_pair, begin_request, continue_request}
use Rattle.tcap_examples.specs.Wrong.WrongHistories.{Wrong, GoesWrong, whole}
use Rattle.tcap_examples.proofs.Apart.{apart}
use Rattle.tcap_examples.proofs.ComponentPremises.{sent_from}
use Rattle.tcap_examples.proofs.SendingWorks.{AreRead, read-same}
use Rattle.tcap_model.specs.Statements.SentFrom.{ComesFrom, SentFrom, SentFromOne}

-- A history is refused whose octets are read as other components than were submitted.
refused : (w : Wrong) (ds : List ComponentParts) → is_sending 1 w.last ≡ true →
    AreRead (octets_sent 1 (whole w)) ds → (components_submitted 1 w.before ≡ ds → ⊥) → SentInOrder (whole w) → ⊥
refused w ds sends are other law =
    let have = law.in_order 1 w.last w.before (record { later = []; is_past = refl }) sends in
    other (read-same (octets_sent 1 (whole w)) (components_submitted 1 w.before) ds are have)

-- An Invoke of dialogue 1 was asked for.
abbrev asks : ℕ → ℕ → Pair
asks id number = invoke_pair 1 (pos id) One (pos 10) 1000 (Answer.number number)

invoked : (id number : ℕ) (later before : Past) →
    ComesFrom 1 (later ++ asks id number ∷ before) (invoke_of id)
invoked id number later before = inl (record {
  pair = asks id number;
  before = before;
  request = Request.component (ComponentRequest.invoke (pos id) One (code 10) None None 1000);
  stands = record { later = later; is_past = refl };
  is_event = refl;
  accepted = refl;
  is_component = refl;
})

-- What a request of dialogue 1 sends comes from there.
from_one : (request : Request) (past : Past) (cs : List ComponentParts) → AllByRecursion (ComesFrom 1 past) cs →
    SentFromOne (Event.on_dialogue 1 request) past cs None
from_one request past cs each =
    record { dialogue = 1; request = request; is_event = refl; each = each; no_fault = refl }

-- ---- sent twice

pub twice-wrong : GoesWrong sent_twice
unfolding computing
twice-wrong = goes_wrong sent_twice refl refl refl refl refl

twice-read : AreRead (first_sent ∷ again_sent ∷ []) (invoke_of 1 ∷ invoke_of 1 ∷ [])
unfolding computing
twice-read = (
  first_message,
  invoke_of 1 ∷ [],
  invoke_of 1 ∷ [],
  refl,
  refl,
  (again_message, invoke_of 1 ∷ [], [], refl, refl, refl, refl),
  refl,
)

pub twice-not_in_order : SentInOrder (whole sent_twice) → ⊥
unfolding computing
twice-not_in_order =
    refused sent_twice (invoke_of 1 ∷ invoke_of 1 ∷ []) refl twice-read
    (λ same. apart length same refl)

-- ---- swapped

-- the fifteenth octet that is sent
abbrev fifteenth : Answer → ℕ
fifteenth answer = get_or (flat_map (λ octets. octets) (octets_in answer)) 14 0

pub swapped-wrong : GoesWrong sent_swapped
unfolding computing
swapped-wrong = goes_wrong_by fifteenth sent_swapped refl refl refl refl refl

swapped-read : AreRead (swapped_sent ∷ []) (invoke_of 2 ∷ invoke_of 1 ∷ [])
unfolding computing
swapped-read = (swapped_message, invoke_of 2 ∷ invoke_of 1 ∷ [], [], refl, refl, refl, refl)

-- the identifier of the first Invoke, the fifth of its octets
abbrev first_identifier : List ComponentParts → ℕ
first_identifier cs = get_or (flat_map written_component cs) 4 0

pub swapped-not_in_order : SentInOrder (whole sent_swapped) → ⊥
unfolding computing
swapped-not_in_order =
    refused sent_swapped (invoke_of 2 ∷ invoke_of 1 ∷ []) refl swapped-read
    (λ same. apart first_identifier same refl)

-- ---- sent though it was given up

pub given_up-wrong : GoesWrong sent_though_given_up
unfolding computing
given_up-wrong = goes_wrong sent_though_given_up refl refl refl refl refl

given_up-read : AreRead (first_sent ∷ []) (invoke_of 1 ∷ [])
unfolding computing
given_up-read = (first_message, invoke_of 1 ∷ [], [], refl, refl, refl, refl)

pub given_up-not_in_order : SentInOrder (whole sent_though_given_up) → ⊥
given_up-not_in_order =
    refused sent_though_given_up (invoke_of 1 ∷ []) refl given_up-read
    (λ same. apart length same refl)

-- ---- not sent

pub missing-wrong : GoesWrong not_sent
unfolding computing
missing-wrong = goes_wrong not_sent refl refl refl refl refl

missing-read : AreRead (bare_sent ∷ []) []
unfolding computing
missing-read = (bare_message, [], [], refl, refl, refl, refl)

pub missing-not_in_order : SentInOrder (whole not_sent) → ⊥
missing-not_in_order =
    refused not_sent [] refl missing-read
    (λ same. apart length same refl)

-- ---- what comes from its dialogue all the same

pub twice-sent_from : SentFrom (whole sent_twice)
unfolding computing
twice-sent_from =
    let first = from_one begin_request (drop 2 sent_twice.before) (invoke_of 1 ∷ [])
    (invoked 1 1 [] (dialogue_born 1 ∷ []), tt) in
    let again = from_one continue_request sent_twice.before (invoke_of 1 ∷ [])
    (invoked 1 1 (take 2 sent_twice.before) (dialogue_born 1 ∷ []), tt) in
    sent_from (whole sent_twice) (
      ((again_message, invoke_of 1 ∷ [], None, refl, refl, inr again), tt),
      ((tt, tt), (((first_message, invoke_of 1 ∷ [], None, refl, refl, inr first), tt), (tt, (tt, tt)))),
    )

pub swapped-sent_from : SentFrom (whole sent_swapped)
unfolding computing
swapped-sent_from =
    let both = from_one begin_request sent_swapped.before (invoke_of 2 ∷ invoke_of 1 ∷ []) (
      invoked 2 2 [] (drop 1 sent_swapped.before),
      (invoked 1 1 (take 1 sent_swapped.before) (dialogue_born 1 ∷ []), tt),
    ) in
    sent_from (whole sent_swapped) (
      ((swapped_message, invoke_of 2 ∷ invoke_of 1 ∷ [], None, refl, refl, inr both), tt),
      (tt, (tt, (tt, tt))),
    )

pub given_up-sent_from : SentFrom (whole sent_though_given_up)
unfolding computing
given_up-sent_from =
    let one = from_one begin_request sent_though_given_up.before (invoke_of 1 ∷ [])
    (invoked 1 1 (take 1 sent_though_given_up.before) (dialogue_born 1 ∷ []), tt) in
    sent_from (whole sent_though_given_up) (
      ((first_message, invoke_of 1 ∷ [], None, refl, refl, inr one), tt),
      (tt, (tt, (tt, tt))),
    )

-- What the tests state.
pub ruleset sending_broken = (twice-wrong, swapped-wrong, given_up-wrong, missing-wrong)
