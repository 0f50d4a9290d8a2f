-- What becomes of a dialogue that may stay idle too long, line by line.
use Rattle.std.specs.Prelude.{◌≡◌, ℕ, List, [], ◌∷◌, map, None}
use Rattle.tcap_model.specs.Histories.Life.{Life, Course, course}
use Rattle.tcap_model.specs.Histories.Pair.{Past}
use Rattle.tcap_model.specs.Invocations.Marks.{Mark}
use Rattle.tcap_model.specs.Words.Fault.{Fault}
use Rattle.tcap_model.specs.Words.State.{State}
use Rattle.tcap_examples.specs.Histories.IdleLimit.{limited, idle_after_the_begin, a_continue_renews_the_limit}
use Rattle.tcap_examples.specs.Histories.IdleLimit.{two_idle_dialogues_in_order, no_idle_limit_in_received}
use Rattle.tcap_examples.specs.Histories.IdleLimit.{an_invoke_renews_nothing, an_answer_renews_the_limit}
use Rattle.tcap_examples.specs.Histories.MarkRows.{Meaning, meaning, idle, begun, active, answering, over}
use Rattle.tcap_examples.specs.Histories.Worked.{Worked, first_pairs}
use Rattle.tcap_examples.specs.Values.Hex.{hex}
use Rattle.tcap_examples.specs.Values.HistoryWords.{moment_pair, moment_refused}

-- ---- lives

-- A dialogue, what happened so far, and its life and the clock at its last activity, as they are
-- stated (own).
pub record Lived : Type 0 where
  pub dialogue : ℕ
  pub past : Past
  pub course : Course

-- A dialogue after so many events of a worked history (own).
abbrev pub lives : Worked → ℕ → ℕ → Life → ℕ → Lived
lives w count dialogue life touched = record {
  dialogue = dialogue;
  past = first_pairs count w.history.pairs;
  course = record { life = life; touched = touched };
}

-- Each dialogue lives as it is stated (own).
abbrev pub LiveAsStated : List Lived → Type 0
LiveAsStated rows =
    map (λ (r : Lived). course r.dialogue r.past) rows ≡ map (λ (r : Lived). r.course) rows

-- A dialogue that stands in this state, without application context (own).
abbrev pub stands : State → Life
stands state = Life.standing state None

-- The peer's transaction identifier (own).
abbrev pub peer : List ℕ
peer = hex 4 0x00000005

-- The peer's transaction identifier in the shown Begin (own).
abbrev pub shown_peer : List ℕ
shown_peer = hex 4 0x00000001

-- Before the limit and at it, after a Continue, of two dialogues, and where the peer began
-- (own).
abbrev pub dialogues : List Lived
dialogues =
    lives idle_after_the_begin 0 1 Life.unborn 0
    ∷ lives idle_after_the_begin 1 1 (stands State.fresh) 0
    ∷ lives idle_after_the_begin 4 1 (stands State.sent) 0
    ∷ lives idle_after_the_begin 5 1 Life.over 0
    ∷ lives idle_after_the_begin 6 1 Life.over 0
    ∷ lives a_continue_renews_the_limit 4 1 (stands State.sent) 0
    ∷ lives a_continue_renews_the_limit 5 1 (stands (State.active peer)) 400
    ∷ lives a_continue_renews_the_limit 6 1 (stands (State.active peer)) 400
    ∷ lives a_continue_renews_the_limit 7 1 Life.over 400
    ∷ lives two_idle_dialogues_in_order 5 1 (stands State.sent) 100
    ∷ lives two_idle_dialogues_in_order 5 2 (stands State.sent) 0
    ∷ lives two_idle_dialogues_in_order 6 1 Life.over 100
    ∷ lives two_idle_dialogues_in_order 6 2 Life.over 0
    ∷ lives no_idle_limit_in_received 2 1 (stands (State.received shown_peer)) 0
    ∷ lives an_invoke_renews_nothing 5 1 (stands State.sent) 0
    ∷ lives an_invoke_renews_nothing 6 1 Life.over 0
    ∷ lives an_answer_renews_the_limit 3 1 (stands (State.active shown_peer)) 700
    ∷ lives an_answer_renews_the_limit 5 1 (stands (State.active shown_peer)) 1100
    ∷ lives an_answer_renews_the_limit 7 1 Life.over 1100
    ∷ []

-- ---- marks

-- A moment at the limit is the end of a dialogue that is live, after the moment itself; it isn't before
-- the limit, where it is refused, where the dialogue isn't live, and where there is no limit (own).
abbrev pub idle_moments : List Meaning
idle_moments =
    meaning begun (limited (moment_pair 500 [])) (Mark.moment 500 ∷ Mark.end ∷ [])
    ∷ meaning active (limited (moment_pair 501 [])) (Mark.moment 501 ∷ Mark.end ∷ [])
    ∷ meaning begun (limited (moment_pair 499 [])) (Mark.moment 499 ∷ [])
    ∷ meaning begun (limited (moment_refused 500 Fault.moment_too_late)) []
    ∷ meaning idle (limited (moment_pair 500 [])) (Mark.moment 500 ∷ [])
    ∷ meaning answering (limited (moment_pair 500 [])) (Mark.moment 500 ∷ [])
    ∷ meaning over (limited (moment_pair 500 [])) (Mark.moment 500 ∷ [])
    ∷ meaning begun (moment_pair 4611686018427387904 []) (Mark.moment 4611686018427387904 ∷ [])
    ∷ []
