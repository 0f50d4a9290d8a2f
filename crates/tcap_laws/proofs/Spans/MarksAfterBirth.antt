-- A dialogue that was created stays so, and before its birth it has no marks.
use Rattle.std.proofs.Common.{◌≡◌, ℕ, ℤ, Bool, true, false, ◌&&◌, if◌then◌else◌, List, [], ◌∷◌, ◌++◌, map, Option, Result, Ok, Err, refl, ap, ◌∙◌}
use Rattle.std.specs.Prelude.{is_some}
use Rattle.tcap_pdu.specs.declared.fault.FrameFault.{FrameFault}
use Rattle.tcap_pdu.specs.FrameSpelling.{Message}
use Rattle.tcap_pdu.specs.FrameReading.{frame_at}
use Rattle.tcap_laws.proofs.Spans.SpanSteps.{span_new, span_grows, span_stays}
use Rattle.tcap_model.specs.Words.Answer.{is_accepted}
use Rattle.tcap_model.specs.Histories.Clock.{clock}
use Rattle.tcap_model.specs.Words.Event.{Event}
use Rattle.tcap_model.specs.Invocations.Invocation.{Invocation, invocation_of}
use Rattle.tcap_model.specs.Histories.Life.{Life, life, touched, life_after, life_if_named, life_by_event, life_by_moment, life_if_live, life_by_message, life_by_verdict, life_if_accepted, life_by_request}
use Rattle.tcap_model.specs.Invocations.Marks.{Mark, Noted, marks, marks_after_birth}
use Rattle.tcap_model.specs.Histories.Names.{names}
use Rattle.tcap_model.specs.Histories.Pair.{Pair, Past}
use Rattle.tcap_model.specs.Procedures.PortionRules.{PortionVerdict, portion_verdict}
use Rattle.tcap_model.specs.Words.Request.{Request, ComponentRequest, DialogueRequest}
use Rattle.tcap_model.specs.Invocations.Reuse.{is_reused}
use Rattle.tcap_model.specs.Invocations.Span.{span}
use Rattle.tcap_model.specs.Words.State.{State, is_live}
use Rattle.tcap_model.specs.Words.Time.{is_idle}

-- ---- a dialogue that was created stays so

abbrev pub was_alive : Life → Bool
was_alive Life.unborn = false
was_alive (Life.standing state context) = true
was_alive Life.over = true

alive_by_request : (s : State) (c : Option (List ℕ)) (r : Request) → was_alive (life_by_request s c r) ≡ true
alive_by_request s c (Request.component (ComponentRequest.invoke id class code parameter linked timeout)) = refl
alive_by_request s c (Request.component (ComponentRequest.result_last id body)) = refl
alive_by_request s c (Request.component (ComponentRequest.result_more id body)) = refl
alive_by_request s c (Request.component (ComponentRequest.error_back id code parameter)) = refl
alive_by_request s c (Request.component (ComponentRequest.u_reject id problem)) = refl
alive_by_request s c (Request.component (ComponentRequest.u_cancel id)) = refl
alive_by_request s c (Request.dialogue (DialogueRequest.uni to asked info)) = refl
alive_by_request s c (Request.dialogue (DialogueRequest.begin to asked info)) = refl
alive_by_request s c (Request.dialogue (DialogueRequest.go_on asked info)) = refl
alive_by_request s c (Request.dialogue (DialogueRequest.finish ending asked info)) = refl
alive_by_request s c (Request.dialogue (DialogueRequest.u_abort why info)) = refl

alive_if_accepted : (b : Bool) (s : State) (c : Option (List ℕ)) (r : Request)
    → was_alive (life_if_accepted b s c r) ≡ true
alive_if_accepted false s c r = refl
alive_if_accepted true s c r = alive_by_request s c r

alive_by_verdict : (s : State) (c : Option (List ℕ)) (origin : List ℕ) (v : PortionVerdict)
    → was_alive (life_by_verdict s c origin v) ≡ true
alive_by_verdict s c origin (PortionVerdict.normal told info) = refl
alive_by_verdict s c origin PortionVerdict.abnormal = refl

alive_by_message : (s : State) (c : Option (List ℕ)) (read : Result Message FrameFault)
    → was_alive (life_by_message s c read) ≡ true
alive_by_message s c (Ok (Message.go_on origin to portion components)) =
    alive_by_verdict s c origin (portion_verdict s c portion)
alive_by_message s c (Ok (Message.end to portion components)) = refl
alive_by_message s c (Ok (Message.abort to reason)) = refl
alive_by_message s c (Ok (Message.unidirectional portion components)) = refl
alive_by_message s c (Ok (Message.begin origin portion components)) = refl
alive_by_message s c (Err fault) = refl

alive_if_live : (b : Bool) (s : State) (c : Option (List ℕ)) (bytes : List ℕ)
    → was_alive (life_if_live b s c bytes) ≡ true
alive_if_live false s c bytes = refl
alive_if_live true s c bytes = alive_by_message s c (frame_at bytes)

alive_by_moment : (b : Bool) (s : State) (c : Option (List ℕ)) → was_alive (life_by_moment b s c) ≡ true
alive_by_moment false s c = refl
alive_by_moment true s c = go (is_live s)
  where
    go : (live : Bool) → was_alive (if live then Life.over else Life.standing s c) ≡ true
    go true = refl
    go false = refl

alive_by_event : (idle_ms last : ℕ) (s : State) (c : Option (List ℕ)) (e : Event) (b : Bool)
    → was_alive (life_by_event idle_ms last s c e b) ≡ true
alive_by_event idle_ms last s c Event.new_dialogue b = refl
alive_by_event idle_ms last s c (Event.on_dialogue dialogue request) b = alive_if_accepted b s c request
alive_by_event idle_ms last s c (Event.received from bytes) b = alive_if_live (is_live s) s c bytes
alive_by_event idle_ms last s c (Event.moment now) b = alive_by_moment (b && is_idle idle_ms last now) s c

alive_if_named : (b : Bool) (last : ℕ) (s : State) (c : Option (List ℕ)) (pair : Pair)
    → was_alive (life_if_named b last s c pair) ≡ true
alive_if_named false last s c pair = refl
alive_if_named true last s c pair = alive_by_event pair.idle_ms last s c pair.event (is_accepted pair.answer)

pub stays_alive : (dialogue last : ℕ) (l : Life) (pair : Pair) → was_alive l ≡ true
    → was_alive (life_after dialogue last l pair) ≡ true
stays_alive dialogue last Life.unborn pair e = absurd cc
stays_alive dialogue last (Life.standing s c) pair e = alive_if_named (names pair.event dialogue) last s c pair
stays_alive dialogue last Life.over pair e = refl

abbrev pub noted_at_clock : ℕ → List Mark → List Noted
noted_at_clock c ms = map (λ (mark : Mark). record { clock = c; mark = mark }) ms

-- ---- before its birth a dialogue has no marks

pub no_marks : (dialogue : ℕ) (id : ℤ) (pair : Pair) (past : Past) → was_alive (life dialogue past) ≡ false
    → marks dialogue id pair past ≡ []
no_marks dialogue id pair past e = go (life dialogue past) e
  where
    none : List Noted
    none = []

    go : (l : Life) → was_alive l ≡ false
        → noted_at_clock (clock past) (marks_after_birth dialogue id (touched dialogue past) l pair) ≡ none
    go Life.unborn e = refl
    go (Life.standing s c) e = absurd cc
    go Life.over e = absurd cc

was_unborn : (dialogue : ℕ) (pair : Pair) (past : Past) → was_alive (life dialogue (pair ∷ past)) ≡ false
    → was_alive (life dialogue past) ≡ false
was_unborn dialogue pair past e = go (was_alive (life dialogue past)) refl
  where
    go : (b : Bool) → was_alive (life dialogue past) ≡ b → was_alive (life dialogue past) ≡ false
    go false q = q
    go true q = let never : was_alive (life dialogue (pair ∷ past)) ≡ true =
        stays_alive dialogue (touched dialogue past) (life dialogue past) pair q in absurd cc

pub span_unborn : (i : Invocation) (past : Past) → was_alive (life i.dialogue past) ≡ false → span i past ≡ []
span_unborn i [] e = refl
span_unborn i (pair ∷ past) e =
    go (is_some (invocation_of i.number past)) (is_reused i (pair ∷ past)) refl refl (span_unborn i past before)
  where
    before : was_alive (life i.dialogue past) ≡ false
    before = was_unborn i.dialogue pair past e

    go : (m u : Bool) → is_some (invocation_of i.number past) ≡ m → is_reused i (pair ∷ past) ≡ u → span i past ≡ []
        → span i (pair ∷ past) ≡ []
    go false u p q more = span_new i pair past p
    go true true p q more = span_stays i pair past p q ∙ more
    go true false p q more =
        span_grows i pair past p q ∙ (ap (λ z. z ++ marks i.dialogue i.id pair past) more
        ∙ no_marks i.dialogue i.id pair past before)
