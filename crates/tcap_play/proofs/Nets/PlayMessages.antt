-- The messages of a play were sent, and are octets.
use Rattle.std.proofs.Common.{◌≡◌, ◌-◌, ◌==◌, ℕ, zero, suc, true, List, [], ◌∷◌, ◌++◌, set, Option, Some, None, refl, sym, ap, subst, inl, inr}
use Rattle.std.specs.Prelude.{bytes_eq, slice_get}
use Rattle.std.specs.List.{AllByRecursion, list_any}
use Rattle.std.specs.Option.{option_and_then}
use Rattle.std.proofs.lemmas.Bool.{and_parts, cases_Bool, or_cases, or_left, or_right}
use Rattle.std.proofs.lemmas.Slice.Eq.{bytes_eq-Decides}
use Rattle.tcap_model.specs.Histories.History.{Start}
use Rattle.tcap_model.specs.Histories.Pair.{Pair, Past}
use Rattle.tcap_model.specs.Replies.Legal.{AreReplies}
use Rattle.tcap_model.specs.Statements.Net.{Engine as Net, Places, answer_sends, is_at, is_send, was_sent}
use Rattle.tcap_model.specs.Statements.Places.{Tells}
use Rattle.tcap_model.specs.Words.Address.{Address}
use Rattle.tcap_model.specs.Words.Answer.{Answer}
use Rattle.tcap_model.specs.Words.Output.{Output}
use Rattle.tcap_play.specs.Play.{Fate, Message, has_fate, message_at, message_if, message_in, message_to, messages_in, messages_of}
use Rattle.tcap_play.specs.Sides.{play_places}
use Rattle.tcap_play.proofs.Nets.WordRanges.{Holds, both-true, guarded}
use Rattle.tcap_play.proofs.Octets.OctetLists.{Octets}
use Rattle.tcap_play.proofs.Octets.SentOctets.{sent-octets}

-- ---- what was sent

send-is : (places : Places) (engine : Net) (bytes : List ℕ) (output : Output) → is_send places engine bytes output ≡ true
    → (to : Address) × (output ≡ Output.send to bytes)
send-is places engine bytes (Output.send to sent) e =
    (to, ap (λ (b : List ℕ). Output.send to b) ((bytes_eq-Decides sent bytes).0 (and_parts (is_at places engine to) (bytes_eq sent bytes) e).1))
send-is places engine bytes (Output.dialogue told) e = absurd cc
send-is places engine bytes (Output.component told) e = absurd cc
send-is places engine bytes (Output.dropped why) e = absurd cc

-- bytes that outputs send to an engine, and where they go
record IsFound (bytes : List ℕ) (outputs : List Output) : Type 0 where
  pub earlier : List Output
  pub later : List Output
  pub to : Address
  pub is_outputs : outputs ≡ earlier ++ Output.send to bytes ∷ later

found-in : (places : Places) (engine : Net) (bytes : List ℕ) (outputs : List Output)
    → list_any (is_send places engine bytes) outputs ≡ true → IsFound bytes outputs
found-in places engine bytes [] e = absurd cc
found-in places engine bytes (output ∷ outputs) e = elim (or_cases (is_send places engine bytes output) (list_any (is_send places engine bytes) outputs) e) [
  | inl here ↦
      let sent = send-is places engine bytes output here in
      record { earlier = []; later = outputs; to = sent.0; is_outputs = ap (λ (o : Output). o ∷ outputs) sent.1 }
  | inr there ↦
      let found = found-in places engine bytes outputs there in
      record { earlier = output ∷ found.earlier; later = found.later; to = found.to; is_outputs = ap (λ (os : List Output). output ∷ os) found.is_outputs }
]

answer-tells : (places : Places) (engine : Net) (bytes : List ℕ) (answer : Answer) → answer_sends places engine bytes answer ≡ true
    → (to : Address) × Tells answer (Output.send to bytes)
answer-tells places engine bytes (Answer.outputs outputs) e =
    let found = found-in places engine bytes outputs e in
    (found.to, record { earlier = found.earlier; later = found.later; is_answer = ap (λ (os : List Output). Answer.outputs os) found.is_outputs })
answer-tells places engine bytes (Answer.new_dialogue dialogue) e = absurd cc
answer-tells places engine bytes (Answer.number n) e = absurd cc
answer-tells places engine bytes Answer.done e = absurd cc
answer-tells places engine bytes (Answer.given_up n) e = absurd cc
answer-tells places engine bytes (Answer.refused fault) e = absurd cc

-- what was sent is octets
pub sent-before : (start : Start) (past : Past) (places : Places) (engine : Net) (bytes : List ℕ) → AreReplies start past
    → was_sent places engine bytes past ≡ true → Octets bytes
sent-before start [] places engine bytes legal e = absurd cc
sent-before start (pair ∷ past) places engine bytes legal e = elim (or_cases (answer_sends places engine bytes pair.answer) (was_sent places engine bytes past) e) [
  | inl here ↦
      let tells = answer-tells places engine bytes pair.answer here in
      sent-octets (record { start = start; pairs = past }) pair.event tells.0 bytes legal.2 legal.0.in_range
      (subst (λ (a : Answer). Tells a (Output.send tells.0 bytes)) legal.1 tells.1)
  | inr earlier ↦ sent-before start past places engine bytes legal.2 earlier
]

-- the octets of a message, if it goes to this address, were sent to the engine of this number
abbrev pub IsSent : Net → Address → Past → Message → Type 0
IsSent engine address past m = bytes_eq m.to address ≡ true → was_sent play_places engine m.octets past ≡ true

-- so were those of messages
abbrev pub WereSent : Net → Address → Past → List Message → Type 0
WereSent engine address past messages = AllByRecursion (IsSent engine address past) messages

-- the address is one of the engine's
abbrev pub IsPlace : Net → Address → Type 0
IsPlace engine address = is_at play_places engine address ≡ true

module _ (engine : Net) (address : Address) where
  more-sent : (past : Past) (messages more : List Message) → WereSent engine address past messages → WereSent engine address past more
      → WereSent engine address past (messages ++ more)
  more-sent past [] more a b = b
  more-sent past (m ∷ messages) more a b = (a.0, more-sent past messages more a.1 b)

  later-sent : (pair : Pair) (past : Past) (messages : List Message) → WereSent engine address past messages
      → WereSent engine address (pair ∷ past) messages
  later-sent pair past [] sent = tt
  later-sent pair past (m ∷ messages) sent = (
    λ here. or_right (answer_sends play_places engine m.octets pair.answer) (was_sent play_places engine m.octets past) (sent.0 here),
    later-sent pair past messages sent.1,
  )

  -- the messages of outputs that go to the address are sent to the engine among them
  abbrev IsAmong : List Output → Message → Type 0
  IsAmong outputs m = bytes_eq m.to address ≡ true → list_any (is_send play_places engine m.octets) outputs ≡ true

  among-later : (output : Output) (outputs : List Output) (messages : List Message) → AllByRecursion (IsAmong outputs) messages
      → AllByRecursion (IsAmong (output ∷ outputs)) messages
  among-later output outputs [] are = tt
  among-later output outputs (m ∷ messages) are = (
    λ here. or_right (is_send play_places engine m.octets output) (list_any (is_send play_places engine m.octets) outputs) (are.0 here),
    among-later output outputs messages are.1,
  )

  send-here : (to : Address) (bytes : List ℕ) → IsPlace engine address → bytes_eq to address ≡ true
      → is_send play_places engine bytes (Output.send to bytes) ≡ true
  send-here to bytes place here =
      both-true (is_at play_places engine to) (bytes_eq bytes bytes)
      (subst (λ (a : Address). is_at play_places engine a ≡ true) (sym ((bytes_eq-Decides to address).0 here)) place)
      ((bytes_eq-Decides bytes bytes).1 refl)

  among : (outputs : List Output) → IsPlace engine address → AllByRecursion (IsAmong outputs) (messages_of outputs)
  among [] place = tt
  among (Output.send to bytes ∷ outputs) place = (
    λ here. or_left (is_send play_places engine bytes (Output.send to bytes)) (list_any (is_send play_places engine bytes) outputs) (send-here to bytes place here),
    among-later (Output.send to bytes) outputs (messages_of outputs) (among outputs place),
  )
  among (Output.dialogue told ∷ outputs) place = among-later (Output.dialogue told) outputs (messages_of outputs) (among outputs place)
  among (Output.component told ∷ outputs) place = among-later (Output.component told) outputs (messages_of outputs) (among outputs place)
  among (Output.dropped why ∷ outputs) place = among-later (Output.dropped why) outputs (messages_of outputs) (among outputs place)

  abbrev SendsIt : Answer → Message → Type 0
  SendsIt answer m = bytes_eq m.to address ≡ true → answer_sends play_places engine m.octets answer ≡ true

  sends-now : (answer : Answer) → IsPlace engine address → AllByRecursion (SendsIt answer) (messages_in answer)
  sends-now (Answer.new_dialogue dialogue) place = tt
  sends-now (Answer.number number) place = tt
  sends-now Answer.done place = tt
  sends-now (Answer.given_up number) place = tt
  sends-now (Answer.outputs outputs) place = among outputs place
  sends-now (Answer.refused fault) place = tt

  now-sent : (pair : Pair) (past : Past) (messages : List Message) → AllByRecursion (SendsIt pair.answer) messages
      → WereSent engine address (pair ∷ past) messages
  now-sent pair past [] sends = tt
  now-sent pair past (m ∷ messages) sends = (
    λ here. or_left (answer_sends play_places engine m.octets pair.answer) (was_sent play_places engine m.octets past) (sends.0 here),
    now-sent pair past messages sends.1,
  )

  pub answered-sent : (pair : Pair) (past : Past) (messages : List Message) → IsPlace engine address
      → WereSent engine address past messages → WereSent engine address (pair ∷ past) (messages ++ messages_in pair.answer)
  answered-sent pair past messages place sent =
      more-sent (pair ∷ past) messages (messages_in pair.answer) (later-sent pair past messages sent)
      (now-sent pair past (messages_in pair.answer) (sends-now pair.answer place))

  -- ---- messages by their number

  pub set-sent : (past : Past) (messages : List Message) (place : ℕ) (m : Message) → WereSent engine address past messages
      → IsSent engine address past m → WereSent engine address past (set messages place m)
  set-sent past [] place m sent this = tt
  set-sent past (other ∷ messages) zero m sent this = (this, sent.1)
  set-sent past (other ∷ messages) (suc place) m sent this = (sent.0, set-sent past messages place m sent.1 this)

  got-sent : (past : Past) (messages : List Message) (place : ℕ) → WereSent engine address past messages
      → Holds (IsSent engine address past) (slice_get messages place)
  got-sent past [] place sent = tt
  got-sent past (m ∷ messages) zero sent = sent.0
  got-sent past (m ∷ messages) (suc place) sent = got-sent past messages place sent.1

  at-sent : (past : Past) (messages : List Message) (number : ℕ) → WereSent engine address past messages
      → Holds (IsSent engine address past) (message_at number messages)
  at-sent past messages number sent = elim (cases_Bool (number == 0)) [
    | inl is ↦ rw is tt
    | inr isnt ↦ rw isnt (got-sent past messages (number - 1) sent)
  ]

  if-sent : (past : Past) (fate : Fate) (m : Option Message) → Holds (IsSent engine address past) m
      → Holds (IsSent engine address past) (option_and_then (message_if fate) m)
  if-sent past fate None sent = tt
  if-sent past fate (Some m) sent = guarded (IsSent engine address past) (has_fate fate m.fate) m (λ is. sent)

  pub found-sent : (past : Past) (fate : Fate) (number : ℕ) (messages : List Message) → WereSent engine address past messages
      → Holds (IsSent engine address past) (message_in fate number messages)
  found-sent past fate number messages sent = if-sent past fate (message_at number messages) (at-sent past messages number sent)

  -- one that goes to the address was sent to the engine
  abbrev pub GoesThere : Past → Message → Type 0
  GoesThere past m = (bytes_eq m.to address ≡ true) × (was_sent play_places engine m.octets past ≡ true)

  to-sent : (past : Past) (m : Option Message) → Holds (IsSent engine address past) m
      → Holds (GoesThere past) (option_and_then (message_to address) m)
  to-sent past None sent = tt
  to-sent past (Some m) sent = guarded (GoesThere past) (bytes_eq m.to address) m (λ is. (is, sent is))

  pub carried-sent : (past : Past) (fate : Fate) (number : ℕ) (messages : List Message) → WereSent engine address past messages
      → Holds (GoesThere past) (option_and_then (message_to address) (message_in fate number messages))
  carried-sent past fate number messages sent = to-sent past (message_in fate number messages) (found-sent past fate number messages sent)
