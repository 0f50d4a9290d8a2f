-- The engines of worked nets: where they are, and what they hear.
use Rattle.std.proofs.Common.{◌≡◌, ◌<◌, ℕ, zero, suc, Bool, true, false, List, [], ◌∷◌, refl, sym, subst, arith, if◌then◌else◌}
use Rattle.std.specs.List.{list_all}
use Rattle.std.specs.Prelude.{IsTrue, bytes_eq, nat_eq, nat_le}
use Rattle.std.proofs.lemmas.Bool.{and_parts, leb-true}
use Rattle.tcap_examples.specs.Nets.Engines.{engine_a, engine_b, address_of_a, two_places}
use Rattle.tcap_examples.specs.Values.Peer.{peer_address}
use Rattle.tcap_laws.proofs.CallerLemmas.{TellsOf, apart-by}
use Rattle.tcap_model.specs.Statements.FarAnswer.{Hears}
use Rattle.tcap_model.specs.Histories.History.{Start}
use Rattle.tcap_model.specs.Replies.Legal.{IsLegal, is_start}
use Rattle.tcap_model.specs.Statements.Net.{AreApart, ComesFromOther, Engine, Marked, Trace, is_at, side, was_sent}
use Rattle.tcap_model.specs.Words.Address.{Address}
use Rattle.tcap_model.specs.Words.Event.{Event}

-- whether each pair is of an engine up to this one
abbrev pub are_up_to : Engine → Trace → Bool
are_up_to last trace = list_all (λ (m : Marked). nat_le m.engine last) trace

-- a later engine has no pairs
pub side-above : (last engine : Engine) (trace : Trace) → last < engine → are_up_to last trace ≡ true → side engine trace ≡ []
side-above last engine [] above up = refl
side-above last engine (m ∷ trace) above up =
    let both = and_parts (nat_le m.engine last) (are_up_to last trace) up in
    let within = leb-true m.engine last both.0 in
    let other : nat_eq engine m.engine ≡ false = grind (arith, above, within) in
    rw other (side-above last engine trace above both.1)

-- and a legal history of none
pub legal-above : (start : Start) (last engine : Engine) (trace : Trace) → last < engine → are_up_to last trace ≡ true
    → IsTrue (is_start start) → IsLegal (record { start = start; pairs = side engine trace })
legal-above start last engine trace above up starts = (starts, rw (side-above last engine trace above up) tt)

pub above_one : (number : ℕ) → 1 < suc (suc number)
above_one number = omega arith

pub not_both : engine_a ≡ engine_b → ⊥
not_both same = absurd cc

-- the first is at one address, any other is the second's
abbrev at_whose : Address → Engine
at_whose address = if bytes_eq address address_of_a then engine_a else engine_b

pub two-apart : AreApart two_places
two-apart = apart-by at_whose two_places told
  where
    told : (engine : Engine) → TellsOf at_whose engine (two_places engine)
    told zero = (refl, tt)
    told (suc zero) = (refl, tt)
    told (suc (suc number)) = tt

-- the second engine receives what the first sent to it
pub from_a : {bytes : List ℕ} {trace : Trace} → IsTrue (was_sent two_places 1 bytes (side 0 trace))
    → ComesFromOther two_places 1 address_of_a bytes trace
from_a sent = record { sender = 0; is_other = not_both; is_from = refl; is_sent = sent }

-- and the first what the second sent to it
pub from_b : {bytes : List ℕ} {trace : Trace} → IsTrue (was_sent two_places 0 bytes (side 1 trace))
    → ComesFromOther two_places 0 peer_address bytes trace
from_b sent = record { sender = 1; is_other = λ same. not_both (sym same); is_from = refl; is_sent = sent }

-- what comes from the peer's address hears the second
pub hears_b : {bytes : List ℕ} → Hears two_places engine_b (Event.received peer_address bytes)
hears_b {bytes} = record { from = peer_address; bytes = bytes; is_event = refl; is_from = refl }

pub hears_a : {bytes : List ℕ} → Hears two_places engine_a (Event.received address_of_a bytes)
hears_a {bytes} = record { from = address_of_a; bytes = bytes; is_event = refl; is_from = refl }

-- a moment hears nobody
pub hears_none : (far : Engine) (now : ℕ) → Hears two_places far (Event.moment now) → ⊥
hears_none far now hears = unlike hears.is_event
  where
    unlike : {from : Address} {bytes : List ℕ} → Event.moment now ≡ Event.received from bytes → ⊥
    unlike same = absurd cc

-- the address that bytes come from
same_address : {bytes other : List ℕ} {one from : Address} → Event.received one bytes ≡ Event.received from other → one ≡ from
same_address same = cc

-- and no other engine
pub heard_is_b : {bytes : List ℕ} (far : Engine) → Hears two_places far (Event.received peer_address bytes) → far ≡ engine_b
heard_is_b far hears =
    two-apart far 1 hears.from hears.is_from
    (subst (λ (from : Address). is_at two_places 1 from ≡ true) (same_address hears.is_event) refl)

-- what comes from the address of the first hears no other
pub hears_from_a : {bytes : List ℕ} (far : Engine) → Hears two_places far (Event.received address_of_a bytes) → far ≡ engine_a
hears_from_a far hears =
    two-apart far 0 hears.from hears.is_from
    (subst (λ (from : Address). is_at two_places 0 from ≡ true) (same_address hears.is_event) refl)

-- and nobody else sends from it
pub sender_is_a : (sender : Engine) → is_at two_places sender address_of_a ≡ true → sender ≡ engine_a
sender_is_a sender is = two-apart sender 0 address_of_a is refl
