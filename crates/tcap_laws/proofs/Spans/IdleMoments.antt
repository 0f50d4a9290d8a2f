-- A live dialogue hasn't been idle too long yet: the moment that reached its limit ended it.
use Rattle.std.proofs.Common.{◌≡◌, ℕ, ◌+◌, ◌<◌, ◌≤◌, Bool, true, false, ◌&&◌, if◌then◌else◌, nat_lt, nat_le, max, List, [], ◌∷◌, Option, Result, Ok, Err, refl, ap, sym, ◌∙◌, arith}
use Rattle.std.proofs.lemmas.Bool.Decides.{nat_tests}
use Rattle.tcap_pdu.specs.declared.fault.FrameFault.{FrameFault}
use Rattle.tcap_pdu.specs.FrameSpelling.{Message}
use Rattle.tcap_pdu.specs.FrameReading.{frame_at}
use Rattle.tcap_model.specs.Histories.Birth.{is_birth_of}
use Rattle.tcap_model.specs.Histories.Clock.{clock, clock_after}
use Rattle.tcap_model.specs.Histories.History.{Start}
use Rattle.tcap_model.specs.Histories.Life.{Life, begun_life, life_at_birth, life_by_request, life_if_accepted, life_by_verdict, life_by_message, life_if_live, life_by_moment, life_by_event, life_if_named, life_after, life, touches_as_request, is_normal, touches_as_message, touches_as_event, touches, touched}
use Rattle.tcap_model.specs.Histories.Names.{names}
use Rattle.tcap_model.specs.Histories.Pair.{Past, AreLimited}
use Rattle.tcap_model.specs.Procedures.PortionRules.{PortionVerdict, portion_verdict}
use Rattle.tcap_model.specs.Replies.Legal.{AreReplies}
use Rattle.tcap_model.specs.Words.Answer.{is_accepted}
use Rattle.tcap_model.specs.Words.Event.{Event}
use Rattle.tcap_model.specs.Words.Request.{Request, DialogueRequest}
use Rattle.tcap_model.specs.Words.State.{State, is_live}
use Rattle.tcap_model.specs.Words.Time.{is_idle}

-- a legal history has one limit
pub legal-limited : (start : Start) (past : Past) → AreReplies start past → AreLimited start.idle_ms past
legal-limited start [] legal = tt
legal-limited start (pair ∷ past) legal = (legal.0.is_limited, legal-limited start past legal.2)

-- ---- the limit as an order

-- the limit isn't reached
abbrev pub Within : ℕ → ℕ → ℕ → Type 0
Within idle_ms last now = 0 < idle_ms → now < last + idle_ms

pub isnt-idle : (idle_ms last now : ℕ) → Within idle_ms last now → is_idle idle_ms last now ≡ false
isnt-idle idle_ms last now within = go (nat_lt 0 idle_ms) (nat_le (last + idle_ms) now) refl refl
  where
    go : (a b : Bool) → nat_lt 0 idle_ms ≡ a → nat_le (last + idle_ms) now ≡ b → (a && b) ≡ false
    go false b p q = refl
    go true false p q = refl
    go true true p q =
        let some : 0 < idle_ms = grind (arith, nat_tests) in
        let late : last + idle_ms ≤ now = grind (arith, nat_tests) in
        let early = within some in
        absurd (omega arith)

pub within-limit : (idle_ms last now : ℕ) → is_idle idle_ms last now ≡ false → Within idle_ms last now
within-limit idle_ms last now e some = go (nat_lt 0 idle_ms) (nat_le (last + idle_ms) now) refl refl e
  where
    go : (a b : Bool) → nat_lt 0 idle_ms ≡ a → nat_le (last + idle_ms) now ≡ b → (a && b) ≡ false
        → now < last + idle_ms
    go false b p q e = absurd (grind (arith, nat_tests))
    go true false p q e = grind (arith, nat_tests)
    go true true p q e = absurd cc

-- ---- what an event leaves

-- a state that stays
abbrev Stays : State → Life → Type 0
Stays before after = (s : State) (c : Option (List ℕ)) → after ≡ Life.standing s c → before ≡ s

-- a dialogue in this state was last active at this clock
abbrev Timely : ℕ → State → ℕ → ℕ → Type 0
Timely idle_ms s last now = is_live s ≡ true → Within idle_ms last now

same-state : (s t : State) (c e : Option (List ℕ)) → Life.standing s c ≡ Life.standing t e → s ≡ t
same-state s t c e same = cc

module _ (idle_ms last before : ℕ) (s : State) (c : Option (List ℕ)) (timely : Timely idle_ms s last before)
    (t : State) (e : Option (List ℕ)) (live : is_live t ≡ true) where
  stays-timely : Life.standing s c ≡ Life.standing t e → Within idle_ms last before
  stays-timely same = let state = same-state s t c e same in timely (rw state live)

  touched-timely : Within idle_ms before before
  touched-timely some = omega (arith, some)

  request-timely : (r : Request) → life_by_request s c r ≡ Life.standing t e
      → Within idle_ms (if touches_as_request r then before else last) before
  request-timely (Request.component asked) is = stays-timely is
  request-timely (Request.dialogue (DialogueRequest.uni to asked info)) is = absurd cc
  request-timely (Request.dialogue (DialogueRequest.begin to asked info)) is = touched-timely
  request-timely (Request.dialogue (DialogueRequest.go_on asked info)) is = touched-timely
  request-timely (Request.dialogue (DialogueRequest.finish ending asked info)) is = absurd cc
  request-timely (Request.dialogue (DialogueRequest.u_abort why info)) is = absurd cc

  accepted-timely : (b : Bool) (r : Request) → life_if_accepted b s c r ≡ Life.standing t e
      → Within idle_ms (if b && touches_as_request r then before else last) before
  accepted-timely true r is = request-timely r is
  accepted-timely false r is = stays-timely is

  verdict-timely : (origin : List ℕ) (v : PortionVerdict) → life_by_verdict s c origin v ≡ Life.standing t e
      → Within idle_ms (if is_normal v then before else last) before
  verdict-timely origin (PortionVerdict.normal told info) is = touched-timely
  verdict-timely origin PortionVerdict.abnormal is = absurd cc

  message-timely : (read : Result Message FrameFault) → life_by_message s c read ≡ Life.standing t e
      → Within idle_ms (if touches_as_message s c read then before else last) before
  message-timely (Ok (Message.go_on origin to portion components)) is =
      verdict-timely origin (portion_verdict s c portion) is
  message-timely (Ok (Message.end to portion components)) is = absurd cc
  message-timely (Ok (Message.abort to reason)) is = absurd cc
  message-timely (Ok (Message.unidirectional portion components)) is = stays-timely is
  message-timely (Ok (Message.begin origin portion components)) is = stays-timely is
  message-timely (Err fault) is = absurd cc

  bytes-timely : (b : Bool) (bytes : List ℕ) → life_if_live b s c bytes ≡ Life.standing t e
      → Within idle_ms (if b && touches_as_message s c (frame_at bytes) then before else last) before
  bytes-timely true bytes is = message-timely (frame_at bytes) is
  bytes-timely false bytes is = stays-timely is

  -- a moment that leaves it live didn't reach the limit
  moment-timely : (now : ℕ) (x : Bool) → is_idle idle_ms last now ≡ x → life_by_moment x s c ≡ Life.standing t e
      → Within idle_ms last (max before now)
  moment-timely now false q is some =
      let old = stays-timely is some in
      let new = within-limit idle_ms last now q some in
      omega (arith, old, new)
  moment-timely now true q is some = go (is_live s) refl is
    where
      go : (b : Bool) → is_live s ≡ b → (if b then Life.over else Life.standing s c) ≡ Life.standing t e
          → max before now < last + idle_ms
      go true p is = absurd cc
      go false p is =
          let state = same-state s t c e is in
          let never : false ≡ true = sym p ∙ (ap is_live state ∙ live) in
          absurd cc

  event-timely : (event : Event) (b : Bool) → life_by_event idle_ms last s c event b ≡ Life.standing t e
      → Within idle_ms (if touches_as_event s c event b then before else last) (clock_after before event b)
  event-timely Event.new_dialogue b is = stays-timely is
  event-timely (Event.on_dialogue d r) b is = accepted-timely b r is
  event-timely (Event.received from bytes) b is = bytes-timely (is_live s) bytes is
  event-timely (Event.moment now) true is = moment-timely now (is_idle idle_ms last now) refl is
  event-timely (Event.moment now) false is = stays-timely is

  -- an event that doesn't name it is no moment
  other-timely : (event : Event) (dialogue : ℕ) (b : Bool) → names event dialogue ≡ false
      → Life.standing s c ≡ Life.standing t e → Within idle_ms last (clock_after before event b)
  other-timely Event.new_dialogue dialogue b unnamed is = stays-timely is
  other-timely (Event.on_dialogue d r) dialogue b unnamed is = stays-timely is
  other-timely (Event.received from bytes) dialogue b unnamed is = stays-timely is
  other-timely (Event.moment now) dialogue b unnamed is = absurd cc

-- ---- a live dialogue is within its limit

begun-isnt-live : (read : Result Message FrameFault) (s : State) (c : Option (List ℕ))
    → begun_life read ≡ Life.standing s c → is_live s ≡ true → ⊥
begun-isnt-live (Ok (Message.begin origin portion components)) s c is live =
    let state : State.received origin ≡ s = cc in
    let never : false ≡ true = ap is_live state ∙ live in
    cc
begun-isnt-live (Ok (Message.unidirectional portion components)) s c is live = cc
begun-isnt-live (Ok (Message.end to portion components)) s c is live = cc
begun-isnt-live (Ok (Message.go_on origin to portion components)) s c is live = cc
begun-isnt-live (Ok (Message.abort to reason)) s c is live = cc
begun-isnt-live (Err fault) s c is live = cc

born-isnt-live : (b : Bool) (event : Event) (s : State) (c : Option (List ℕ))
    → life_at_birth b event ≡ Life.standing s c → is_live s ≡ true → ⊥
born-isnt-live false event s c is live = cc
born-isnt-live true Event.new_dialogue s c is live =
    let state : State.fresh ≡ s = cc in
    let never : false ≡ true = ap is_live state ∙ live in
    cc
born-isnt-live true (Event.on_dialogue d r) s c is live = cc
born-isnt-live true (Event.received from bytes) s c is live = begun-isnt-live (frame_at bytes) s c is live
born-isnt-live true (Event.moment now) s c is live = cc

pub live-within : (idle_ms dialogue : ℕ) (past : Past) (s : State) (c : Option (List ℕ)) → AreLimited idle_ms past
    → life dialogue past ≡ Life.standing s c → is_live s ≡ true
    → Within idle_ms (touched dialogue past) (clock past)
live-within idle_ms dialogue [] s c limited is live = absurd cc
live-within idle_ms dialogue (pair ∷ past) s c limited is live =
    go (life dialogue past) is (λ t d stands alive. live-within idle_ms dialogue past t d limited.1 stands alive)
  where
    accepted : Bool
    accepted = is_accepted pair.answer

    after : Life → ℕ
    after l = if touches dialogue l pair then clock past else touched dialogue past

    stood : (t : State) (d : Option (List ℕ)) (named : Bool) → names pair.event dialogue ≡ named
        → life_if_named named (touched dialogue past) t d pair ≡ Life.standing s c
        → Timely idle_ms t (touched dialogue past) (clock past)
        → Within idle_ms (if named && touches_as_event t d pair.event accepted then clock past else touched dialogue past)
        (clock (pair ∷ past))
    stood t d false q is timely =
        other-timely idle_ms (touched dialogue past) (clock past) t d timely s c live pair.event dialogue accepted q is
    stood t d true q is timely =
        event-timely idle_ms (touched dialogue past) (clock past) t d timely s c live pair.event accepted
        (ap (λ k. life_by_event k (touched dialogue past) t d pair.event accepted) (sym limited.0) ∙ is)

    go : (l : Life) → life_after dialogue (touched dialogue past) l pair ≡ Life.standing s c
        → ((t : State) (d : Option (List ℕ)) → l ≡ Life.standing t d → Timely idle_ms t (touched dialogue past)
        (clock past)) → Within idle_ms (after l) (clock (pair ∷ past))
    go Life.unborn is ih = absurd (born-isnt-live (is_birth_of dialogue pair) pair.event s c is live)
    go (Life.standing t d) is ih = stood t d (names pair.event dialogue) refl is (ih t d refl)
    go Life.over is ih = absurd cc

-- a moment up to the clock does nothing to it
pub not-idle-yet : (idle_ms dialogue now : ℕ) (past : Past) (s : State) (c : Option (List ℕ))
    → AreLimited idle_ms past → life dialogue past ≡ Life.standing s c → is_live s ≡ true → now ≤ clock past
    → is_idle idle_ms (touched dialogue past) now ≡ false
not-idle-yet idle_ms dialogue now past s c limited is live early =
    isnt-idle idle_ms (touched dialogue past) now
    (λ some. let within = live-within idle_ms dialogue past s c limited is live some in omega (arith, within))
