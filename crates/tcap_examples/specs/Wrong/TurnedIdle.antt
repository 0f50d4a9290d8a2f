-- Moves of an engine with one rule of the idle limit turned, and where each of them shows.
use Rattle.std.specs.Prelude.{ℕ, ◌+◌, ◌&&◌, ◌==◌, Bool, nat_lt, not, List, [], ◌∷◌, ◌++◌, filter, flat_map, map}
use Rattle.std.specs.Prelude.{Option, Some, None, if◌then◌else◌, pos}
use Rattle.tcap_examples.specs.Histories.IdleLimit.{ended_in_1, idle_abort}
use Rattle.tcap_examples.specs.Histories.IdleWalks.{another_waits, both_sent_engine, idle_engine, idle_engine_of_two}
use Rattle.tcap_examples.specs.Histories.IdleWalks.{lapsed_and_idle, received_engine, renewed_engine, sent_long_ago}
use Rattle.tcap_examples.specs.Histories.IdleWalks.{two_touched}
use Rattle.tcap_examples.specs.Histories.StepWords.{invoke_request}
use Rattle.tcap_examples.specs.Values.Hex.{hex}
use Rattle.tcap_examples.specs.Wrong.TurnedMoves.{Move, Shows, has_peer}
use Rattle.tcap_model.specs.Table.Dialogue.{Dialogue, is_idle_at, touched_at}
use Rattle.tcap_model.specs.Table.DueLapses.{all_idle_told, all_told, at_moment, idle_at_moment, table_idle_key, table_idle_told}
use Rattle.tcap_model.specs.Table.EngineMove.{EngineMoved, advanced, engine_move}
use Rattle.tcap_model.specs.Table.TableMove.{ended_told}
use Rattle.tcap_model.specs.Table.World.{World}
use Rattle.tcap_model.specs.Words.Answer.{Answer}
use Rattle.tcap_model.specs.Words.Event.{Event}
use Rattle.tcap_model.specs.Words.KeyOrder.{in_order}
use Rattle.tcap_model.specs.Words.Output.{Output}
use Rattle.tcap_model.specs.Words.State.{is_live, peer_of}
use Rattle.tcap_model.specs.Words.Time.{is_idle}
use Rattle.tcap_examples.specs.Values.Peer.{sent}

-- ---- turned moments

-- An engine that moves so at moments, and as it should at all else (own).
abbrev pub at_moments : (World → ℕ → EngineMoved) → Move
at_moments turned w Event.new_dialogue = engine_move w Event.new_dialogue
at_moments turned w (Event.on_dialogue identifier request) = engine_move w (Event.on_dialogue identifier request)
at_moments turned w (Event.received from bytes) = engine_move w (Event.received from bytes)
at_moments turned w (Event.moment now) = turned w now

-- An engine that tells this at moments, and whose dialogues are as they should be after them (own).
abbrev pub telling : (World → ℕ → List Output) → Move
telling told = at_moments (λ w now. record (advanced w now) { answer = Answer.outputs (told w now) })

-- What is told of a dialogue that is over where its invocations are ended as they stand before the
-- moment (own).
abbrev pub told_as_it_stands : Dialogue → List Output
told_as_it_stands d =
    idle_abort d.standing.identifier ∷ ended_told d.standing.identifier d.invocations

-- What is due lapses only in the dialogues that go on; in the others all is ended (own).
abbrev pub ending_past_the_deadline : Move
ending_past_the_deadline = telling (λ w now.
    all_told now (filter (λ d. not (is_idle_at now d)) w.dialogues)
    ++ flat_map told_as_it_stands (idle_at_moment now w.dialogues))

-- The dialogues that are over are told before what lapses (own).
abbrev pub idle_before_lapses : Move
idle_before_lapses = telling (λ w now. all_idle_told now w.dialogues ++ all_told now w.dialogues)

-- They are told in the order of their identifiers (own).
abbrev pub idle_by_dialogue : Move
idle_by_dialogue = telling (λ w now.
    all_told now w.dialogues ++ flat_map (table_idle_told now) (filter (is_idle_at now) w.dialogues))

-- An Abort without contents to the peer, where it is known (own).
abbrev pub abort_to : Option (List ℕ) → List Output
abort_to None = []
abort_to (Some peer) = sent (hex 4 0x6706_4904 ++ peer) ∷ []

-- An Abort is sent to the peer of each (own).
abbrev pub sending_aborts : Move
sending_aborts = telling (λ w now.
    all_told now w.dialogues
    ++ flat_map (λ d. abort_to (peer_of d.standing.state) ++ table_idle_told now d) (idle_at_moment now w.dialogues))

-- ---- who is judged

-- An engine in which the dialogues are over of which this holds at a moment (own).
abbrev pub ending_by : (ℕ → Dialogue → Bool) → Move
ending_by judged = at_moments (λ w now. record {
  answer = Answer.outputs (all_told now w.dialogues
      ++ flat_map (table_idle_told now) (in_order table_idle_key (filter (judged now) w.dialogues)));
  after = record w {
    clock = now;
    dialogues = map (at_moment now) (filter (λ d. not (judged now d)) w.dialogues);
  };
})

-- Each dialogue with a peer is judged, one in Initiation Received too (own).
abbrev pub judging_received : Move
judging_received = ending_by (λ now d. has_peer d.standing.state && is_idle d.idle_ms d.touched now)

-- A dialogue is over only past the limit (own).
abbrev pub ending_past_the_limit : Move
ending_past_the_limit = ending_by (λ now d. is_live d.standing.state && nat_lt (d.touched + d.idle_ms) now)

-- ---- what renews the limit

-- The idle timer of the dialogue of this identifier starts anew (own).
abbrev pub touched_if : ℕ → ℕ → Dialogue → Dialogue
touched_if clock identifier d = if d.standing.identifier == identifier then touched_at d clock else d

-- The engine after a move, with that idle timer started anew (own).
abbrev pub with_touched : ℕ → EngineMoved → EngineMoved
with_touched identifier m = record m {
  after = record m.after { dialogues = map (touched_if m.after.clock identifier) m.after.dialogues };
}

-- Each request restarts the idle timer of its dialogue (own).
abbrev pub renewing_by_requests : Move
renewing_by_requests w Event.new_dialogue = engine_move w Event.new_dialogue
renewing_by_requests w (Event.on_dialogue identifier request) =
    with_touched identifier (engine_move w (Event.on_dialogue identifier request))
renewing_by_requests w (Event.received from bytes) = engine_move w (Event.received from bytes)
renewing_by_requests w (Event.moment now) = engine_move w (Event.moment now)

-- ---- where they show

-- The engine tells this, and is this one then (own).
abbrev pub tells : List Output → World → EngineMoved
tells outputs after = record { answer = Answer.outputs outputs; after = after }

-- The first invocation lapses, and is not ended (own).
abbrev pub PastTheDeadlineShows : Type 0
PastTheDeadlineShows =
    Shows ending_past_the_deadline both_sent_engine (Event.moment 500) (tells lapsed_and_idle (idle_engine 500 3 []))

-- It lapses before the dialogue is over (own).
abbrev pub IdleBeforeLapsesShows : Type 0
IdleBeforeLapsesShows =
    Shows idle_before_lapses both_sent_engine (Event.moment 500) (tells lapsed_and_idle (idle_engine 500 3 []))

-- The dialogue that reached the limit first is told first (own).
abbrev pub IdleByDialogueShows : Type 0
IdleByDialogueShows = Shows idle_by_dialogue two_touched (Event.moment 600)
    (tells (idle_abort 2 ∷ idle_abort 1 ∷ []) (idle_engine_of_two 600 []))

-- No message goes out (own).
abbrev pub SendingAbortsShows : Type 0
SendingAbortsShows = Shows sending_aborts renewed_engine (Event.moment 900)
    (tells (idle_abort 1 ∷ ended_in_1 1 ∷ []) (idle_engine 900 2 []))

-- The dialogue in Initiation Received stays (own).
abbrev pub JudgingReceivedShows : Type 0
JudgingReceivedShows = Shows judging_received (received_engine 0) (Event.moment 500) (tells [] (received_engine 500))

-- The dialogue is over at the limit (own).
abbrev pub PastTheLimitShows : Type 0
PastTheLimitShows = Shows ending_past_the_limit renewed_engine (Event.moment 900)
    (tells (idle_abort 1 ∷ ended_in_1 1 ∷ []) (idle_engine 900 2 []))

-- An Invoke doesn't restart the idle timer (own).
abbrev pub RenewingShows : Type 0
RenewingShows = Shows renewing_by_requests sent_long_ago (Event.on_dialogue 1 (invoke_request (pos 2) 10 1000))
    (record { answer = Answer.number 2; after = another_waits })
