-- A dialogue goes from unborn to standing to over, and never back.
use Rattle.std.proofs.Common.{◌≡◌, ◌≢◌, ℕ, Bool, true, false, ◌&&◌, if◌then◌else◌, List, [], ◌∷◌, ◌++◌, Option, Result, Ok, Err, refl, ap}
use Rattle.tcap_pdu.specs.declared.fault.FrameFault.{FrameFault}
use Rattle.tcap_pdu.specs.FrameSpelling.{Message}
use Rattle.tcap_pdu.specs.FrameReading.{frame_at}
use Rattle.tcap_model.specs.Words.Answer.{is_accepted}
use Rattle.tcap_model.specs.Words.Event.{Event}
use Rattle.tcap_model.specs.Histories.Clock.{clock}
use Rattle.tcap_model.specs.Histories.Life.{Life, life_by_request, life_if_accepted, life_by_verdict, life_by_message, life_if_live, life_by_moment, life_by_event, life_if_named, life_after, life, touched, touches}
use Rattle.tcap_model.specs.Histories.Names.{names}
use Rattle.tcap_model.specs.Histories.Pair.{Pair, Past}
use Rattle.tcap_model.specs.Procedures.PortionRules.{PortionVerdict, portion_verdict}
use Rattle.tcap_model.specs.Words.Request.{Request, ComponentRequest, DialogueRequest}
use Rattle.tcap_model.specs.Words.State.{State, is_live}
use Rattle.tcap_model.specs.Words.Time.{is_idle}

-- ---- over

pub over-step : (dialogue : ℕ) (pair : Pair) (past : Past) → life dialogue past ≡ Life.over
    → life dialogue (pair ∷ past) ≡ Life.over
over-step dialogue pair past over = ap (λ (before : Life). life_after dialogue (touched dialogue past) before pair) over

pub over-later : (dialogue : ℕ) (later past : Past) → life dialogue past ≡ Life.over
    → life dialogue (later ++ past) ≡ Life.over
over-later dialogue [] past over = over
over-later dialogue (pair ∷ later) past over =
    over-step dialogue pair (later ++ past) (over-later dialogue later past over)

-- ---- born

abbrev IsBorn : Life → Type 0
IsBorn Life.unborn = ⊥
IsBorn (Life.standing state context) = Unit {0}
IsBorn Life.over = Unit {0}

request-was_born : (state : State) (context : Option (List ℕ)) (request : Request)
    → IsBorn (life_by_request state context request)
request-was_born state context (Request.component (ComponentRequest.invoke id class code parameter linked timeout)) = tt
request-was_born state context (Request.component (ComponentRequest.result_last id body)) = tt
request-was_born state context (Request.component (ComponentRequest.result_more id body)) = tt
request-was_born state context (Request.component (ComponentRequest.error_back id code parameter)) = tt
request-was_born state context (Request.component (ComponentRequest.u_reject id problem)) = tt
request-was_born state context (Request.component (ComponentRequest.u_cancel id)) = tt
request-was_born state context (Request.dialogue (DialogueRequest.uni to asked info)) = tt
request-was_born state context (Request.dialogue (DialogueRequest.begin to asked info)) = tt
request-was_born state context (Request.dialogue (DialogueRequest.go_on asked info)) = tt
request-was_born state context (Request.dialogue (DialogueRequest.finish ending asked info)) = tt
request-was_born state context (Request.dialogue (DialogueRequest.u_abort why info)) = tt

accepted-born : (accepted : Bool) (state : State) (context : Option (List ℕ)) (request : Request)
    → IsBorn (life_if_accepted accepted state context request)
accepted-born true state context request = request-was_born state context request
accepted-born false state context request = tt

verdict-born : (state : State) (context : Option (List ℕ)) (origin : List ℕ) (verdict : PortionVerdict)
    → IsBorn (life_by_verdict state context origin verdict)
verdict-born state context origin (PortionVerdict.normal told info) = tt
verdict-born state context origin PortionVerdict.abnormal = tt

message-born : (state : State) (context : Option (List ℕ)) (read : Result Message FrameFault)
    → IsBorn (life_by_message state context read)
message-born state context (Ok (Message.go_on origin to portion components)) =
    verdict-born state context origin (portion_verdict state context portion)
message-born state context (Ok (Message.end to portion components)) = tt
message-born state context (Ok (Message.abort to reason)) = tt
message-born state context (Ok (Message.unidirectional portion components)) = tt
message-born state context (Ok (Message.begin origin portion components)) = tt
message-born state context (Err fault) = tt

live-born : (live : Bool) (state : State) (context : Option (List ℕ)) (bytes : List ℕ)
    → IsBorn (life_if_live live state context bytes)
live-born true state context bytes = message-born state context (frame_at bytes)
live-born false state context bytes = tt

moment-born : (idle : Bool) (state : State) (context : Option (List ℕ)) → IsBorn (life_by_moment idle state context)
moment-born false state context = tt
moment-born true state context = go (is_live state)
  where
    go : (live : Bool) → IsBorn (if live then Life.over else Life.standing state context)
    go true = tt
    go false = tt

event-born : (idle_ms last : ℕ) (state : State) (context : Option (List ℕ)) (event : Event) (accepted : Bool)
    → IsBorn (life_by_event idle_ms last state context event accepted)
event-born idle_ms last state context Event.new_dialogue accepted = tt
event-born idle_ms last state context (Event.on_dialogue dialogue request) accepted =
    accepted-born accepted state context request
event-born idle_ms last state context (Event.received from bytes) accepted =
    live-born (is_live state) state context bytes
event-born idle_ms last state context (Event.moment now) accepted =
    moment-born (accepted && is_idle idle_ms last now) state context

named-born : (named : Bool) (last : ℕ) (state : State) (context : Option (List ℕ)) (pair : Pair)
    → IsBorn (life_if_named named last state context pair)
named-born true last state context pair =
    event-born pair.idle_ms last state context pair.event (is_accepted pair.answer)
named-born false last state context pair = tt

after-born : (dialogue last : ℕ) (before : Life) (pair : Pair) → IsBorn before
    → IsBorn (life_after dialogue last before pair)
after-born dialogue last Life.unborn pair born = absurd born
after-born dialogue last (Life.standing state context) pair born =
    named-born (names pair.event dialogue) last state context pair
after-born dialogue last Life.over pair born = tt

born-later : (dialogue : ℕ) (later past : Past) → IsBorn (life dialogue past) → IsBorn (life dialogue (later ++ past))
born-later dialogue [] past born = born
born-later dialogue (pair ∷ later) past born =
    after-born dialogue (touched dialogue (later ++ past)) (life dialogue (later ++ past)) pair
    (born-later dialogue later past born)

is_born : (before : Life) → before ≢ Life.unborn → IsBorn before
is_born Life.unborn born = born refl
is_born (Life.standing state context) born = tt
is_born Life.over born = tt

isnt_unborn : (before : Life) → IsBorn before → before ≢ Life.unborn
isnt_unborn before born unborn = rw unborn at born

pub born-stays : (dialogue : ℕ) (later past : Past) → life dialogue past ≢ Life.unborn
    → life dialogue (later ++ past) ≢ Life.unborn
born-stays dialogue later past born =
    isnt_unborn (life dialogue (later ++ past)) (born-later dialogue later past (is_born (life dialogue past) born))

-- ---- activity

-- before it is created it had no activity
pub unborn-untouched : (dialogue : ℕ) (past : Past) → life dialogue past ≡ Life.unborn → touched dialogue past ≡ 0
unborn-untouched dialogue [] unborn = refl
unborn-untouched dialogue (pair ∷ past) unborn =
    go (life dialogue past) refl unborn (unborn-untouched dialogue past)
  where
    go : (before : Life) → life dialogue past ≡ before
        → life_after dialogue (touched dialogue past) before pair ≡ Life.unborn
        → (life dialogue past ≡ Life.unborn → touched dialogue past ≡ 0)
        → (if touches dialogue before pair then clock past else touched dialogue past) ≡ 0
    go Life.unborn is e ih = ih is
    go (Life.standing state context) is e ih =
        let born = after-born dialogue (touched dialogue past) (Life.standing state context) pair tt in
        absurd (isnt_unborn (life_after dialogue (touched dialogue past) (Life.standing state context) pair) born e)
    go Life.over is e ih = absurd cc
