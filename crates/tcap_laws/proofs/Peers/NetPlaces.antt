-- Where the pairs of engines stand: in the list of all, and in the history of each.
use Rattle.std.proofs.Common.{◌≡◌, ℕ, true, nat_eq, bytes_eq, IsTrue, List, [], ◌∷◌, ◌++◌, refl, sym, ap, subst, ◌∙◌, inl, inr, append_assoc}
use Rattle.std.specs.List.{list_any}
use Rattle.std.proofs.lemmas.Bool.{and_parts, cases_Bool, eq-eqb, eqb-true, or_cases}
use Rattle.std.proofs.lemmas.Slice.Eq.{bytes_eq-Decides}
use Rattle.tcap_model.specs.Words.Address.{Address}
use Rattle.tcap_model.specs.Words.Answer.{Answer}
use Rattle.tcap_model.specs.Statements.Net.{Engine, Marked, Trace, side, Places, is_at, is_send, answer_sends, was_sent, IsCarriedTo, IsCarried}
use Rattle.tcap_model.specs.Words.Output.{Output}
use Rattle.tcap_model.specs.Histories.Pair.{Pair, Past}
use Rattle.tcap_model.specs.Statements.Places.{StandsIn, Tells}
use Rattle.tcap_model.specs.Statements.FarAnswer.{Happens}

own : (engine : Engine) → nat_eq engine engine ≡ true
own engine = eq-eqb engine engine refl

engine_is : (one other : Engine) → nat_eq one other ≡ true → other ≡ one
engine_is one other e = sym (eqb-true one other e)

side-append : (engine : Engine) (later trace : Trace)
    → side engine (later ++ trace) ≡ side engine later ++ side engine trace
side-append engine [] trace = refl
side-append engine (m ∷ later) trace = elim (cases_Bool (nat_eq engine m.engine)) [
  | inl here ↦ rw here (ap (λ (p : Past). m.pair ∷ p) (side-append engine later trace))
  | inr there ↦ rw there (side-append engine later trace)
]

side-own : (engine : Engine) (pair : Pair) (before : Trace)
    → side engine (record { engine = engine; pair = pair } ∷ before) ≡ pair ∷ side engine before
side-own engine pair before = rw (own engine) refl

-- what stands before a pair of one engine is the older part of what each did
pub happens-rest : (other engine : Engine) (pair : Pair) (before trace : Trace) → Happens engine pair before trace
    → (later : Past) × (side other trace ≡ later ++ side other before)
happens-rest other engine pair before trace happens =
    let here : Trace = record { engine = engine; pair = pair } ∷ [] in (
      side other (happens.later ++ here),
      ap (side other) (happens.is_trace ∙ sym (append_assoc happens.later here before))
          ∙ side-append other (happens.later ++ here) before,
    )

-- ---- from all to one, and back

pub happens-stands : (engine : Engine) (pair : Pair) (before trace : Trace) → Happens engine pair before trace
    → StandsIn pair (side engine before) (side engine trace)
happens-stands engine pair before trace happens = record {
  later = side engine happens.later;
  is_past = ap (side engine) happens.is_trace ∙ (side-append engine happens.later
      (record { engine = engine; pair = pair } ∷ before)
      ∙ ap (λ (p : Past). side engine happens.later ++ p) (side-own engine pair before));
}

pub record IsAt (engine : Engine) (pair : Pair) (past : Past) (trace : Trace) : Type 0 where
  pub before : Trace
  pub happens : Happens engine pair before trace
  pub is_side : side engine before ≡ past

at-later : (engine : Engine) (pair : Pair) (past : Past) (m : Marked) (trace : Trace) → IsAt engine pair past trace
    → IsAt engine pair past (m ∷ trace)
at-later engine pair past m trace at = record {
  before = at.before;
  happens = record { later = m ∷ at.happens.later; is_trace = ap (λ (t : Trace). m ∷ t) at.happens.is_trace };
  is_side = at.is_side;
}

at-here : (engine : Engine) (m : Marked) (trace : Trace) → m.engine ≡ engine
    → IsAt engine m.pair (side engine trace) (m ∷ trace)
at-here engine m trace is = record {
  before = trace;
  happens = record { later = []; is_trace = ap (λ (e : Engine). record { engine = e; pair = m.pair } ∷ trace) is };
  is_side = refl;
}

stands-at : (engine : Engine) (pair : Pair) (past later : Past) (trace : Trace)
    → side engine trace ≡ later ++ pair ∷ past → IsAt engine pair past trace
stands-at engine pair past [] [] is = absurd cc
stands-at engine pair past (p ∷ later) [] is = absurd cc
stands-at engine pair past later (m ∷ trace) is = elim (cases_Bool (nat_eq engine m.engine)) [
  | inl here ↦ let is = is in let is : m.pair ∷ side engine trace ≡ later ++ pair ∷ past =
      rw here at is in by-later (λ rest more. stands-at engine pair past rest trace more) later is here
  | inr there ↦ let is = is in let is : side engine trace ≡ later ++ pair ∷ past =
      rw there at is in at-later engine pair past m trace (stands-at engine pair past later trace is)
]
  where
    by-later : ((rest : Past) → side engine trace ≡ rest ++ pair ∷ past → IsAt engine pair past trace) → (later : Past)
        → m.pair ∷ side engine trace ≡ later ++ pair ∷ past → nat_eq engine m.engine ≡ true
        → IsAt engine pair past (m ∷ trace)
    by-later again [] is here =
        let first : m.pair ≡ pair = cc in
        let rest : side engine trace ≡ past = cc in
        subst (λ (p : Past). IsAt engine pair p (m ∷ trace)) rest
        (subst (λ (p : Pair). IsAt engine p (side engine trace) (m ∷ trace)) first
        (at-here engine m trace (engine_is engine m.engine here)))
    by-later again (p ∷ later) is here =
        let rest : side engine trace ≡ later ++ pair ∷ past = cc in
        at-later engine pair past m trace (again later rest)

pub stands-happens : (engine : Engine) (pair : Pair) (past : Past) (trace : Trace)
    → StandsIn pair past (side engine trace) → IsAt engine pair past trace
stands-happens engine pair past trace stands = stands-at engine pair past stands.later trace stands.is_past

-- ---- what is carried

carried-after : (places : Places) (later : Trace) (m : Marked) (before : Trace) → IsCarried places (later ++ m ∷ before)
    → IsCarriedTo places m.engine m.pair.event before
carried-after places [] m before all = all.0
carried-after places (other ∷ later) m before all = carried-after places later m before all.1

pub carried-there : (places : Places) (engine : Engine) (pair : Pair) (before trace : Trace)
    → Happens engine pair before trace → IsCarried places trace → IsCarriedTo places engine pair.event before
carried-there places engine pair before trace happens all =
    carried-after places happens.later (record { engine = engine; pair = pair }) before
    (subst (IsCarried places) happens.is_trace all)

-- ---- the pair that sent some bytes

module _ (places : Places) (engine : Engine) (bytes : List ℕ) where
  -- an output that sends them to the engine
  abbrev IsSending : Output → Type 0
  IsSending output = (to : Address) × IsTrue (is_at places engine to) × (output ≡ Output.send to bytes)

  send-is : (output : Output) → is_send places engine bytes output ≡ true → IsSending output
  send-is (Output.send to sent) e =
      let both = and_parts (is_at places engine to) (bytes_eq sent bytes) e in
      (to, both.0, ap (λ (b : List ℕ). Output.send to b) ((bytes_eq-Decides sent bytes).0 both.1))
  send-is (Output.dialogue indication) e = absurd cc
  send-is (Output.component indication) e = absurd cc
  send-is (Output.dropped why) e = absurd cc

  -- an output among others
  abbrev IsAmong : List Output → Type 0
  IsAmong outputs =
      (to : Address) × IsTrue (is_at places engine to) × (earlier : List Output) × (later : List Output)
      × (outputs ≡ earlier ++ Output.send to bytes ∷ later)

  found-in : (outputs : List Output) → list_any (is_send places engine bytes) outputs ≡ true → IsAmong outputs
  found-in [] e = absurd cc
  found-in (output ∷ outputs) e =
      elim (or_cases (is_send places engine bytes output) (list_any (is_send places engine bytes) outputs) e) [
        | inl here ↦
            let sends = send-is output here in
            (sends.0, sends.1, [], outputs, ap (λ (o : Output). o ∷ outputs) sends.2)
        | inr there ↦
            let found = found-in outputs there in
            (found.0, found.1, output ∷ found.2, found.3, ap (λ (os : List Output). output ∷ os) found.4)
      ]

  -- an answer has such an output
  abbrev TellsSend : Answer → Type 0
  TellsSend answer = (to : Address) × IsTrue (is_at places engine to) × Tells answer (Output.send to bytes)

  answer-tells : (answer : Answer) → answer_sends places engine bytes answer ≡ true → TellsSend answer
  answer-tells (Answer.outputs outputs) e =
      let found = found-in outputs e in (
        found.0,
        found.1,
        record { earlier = found.2; later = found.3; is_answer = ap (λ (os : List Output). Answer.outputs os) found.4 },
      )
  answer-tells (Answer.new_dialogue dialogue) e = absurd cc
  answer-tells (Answer.number n) e = absurd cc
  answer-tells Answer.done e = absurd cc
  answer-tells (Answer.given_up n) e = absurd cc
  answer-tells (Answer.refused fault) e = absurd cc

  -- these bytes were sent to the engine by this pair
  pub record SentBy (past : Past) : Type 0 where
    pub pair : Pair
    pub before : Past
    pub to : Address
    pub is_to : IsTrue (is_at places engine to)
    pub stands : StandsIn pair before past
    pub tells : Tells pair.answer (Output.send to bytes)

  bytes_sent-later : (pair : Pair) (past : Past) → SentBy past → SentBy (pair ∷ past)
  bytes_sent-later pair past sent = record {
    pair = sent.pair;
    before = sent.before;
    to = sent.to;
    is_to = sent.is_to;
    stands = record { later = pair ∷ sent.stands.later; is_past = ap (λ (p : Past). pair ∷ p) sent.stands.is_past };
    tells = sent.tells;
  }

  pub bytes_sent : (past : Past) → was_sent places engine bytes past ≡ true → SentBy past
  bytes_sent [] e = absurd cc
  bytes_sent (pair ∷ past) e =
      elim (or_cases (answer_sends places engine bytes pair.answer) (was_sent places engine bytes past) e) [
        | inl here ↦
            let found = answer-tells pair.answer here in
            record {
              pair = pair;
              before = past;
              to = found.0;
              is_to = found.1;
              stands = record { later = []; is_past = refl };
              tells = found.2;
            }
        | inr there ↦ bytes_sent-later pair past (bytes_sent past there)
      ]
