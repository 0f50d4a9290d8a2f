-- One dialogue as the engine keeps it.
use Rattle.std.specs.Prelude.{ℕ, ℤ, ◌+◌, ◌&&◌, Bool, nat_lt, List, [], Option, Some, None, if◌then◌else◌}
use Rattle.tcap_invocation.specs.declared.invocations.Invocation.{Invocation}
use Rattle.tcap_invocation.specs.Invocations.{InvocationList, sent_at}
use Rattle.tcap_model.specs.Words.Address.{Address}
use Rattle.tcap_model.specs.Words.State.{State, is_live}
use Rattle.tcap_model.specs.Words.Time.{is_idle}
use Rattle.tcap_model.specs.Procedures.QueueRules.{Queued}
use Rattle.tcap_model.specs.Procedures.Standing.{Standing}
use Rattle.tcap_model.specs.Procedures.ComponentHandling.{SentInvocation}

-- A dialogue: its identifier, state, application context and queue; its invocations by rising number,
-- with how long an identifier waits for a Reject; its idle limit, 0 for none, and the clock at
-- its last activity; the address of its peer, empty before there is one (own).
pub record Dialogue : Type 0 where
  pub standing : Standing
  pub invocations : InvocationList
  pub idle_ms : ℕ
  pub touched : ℕ
  pub kept : Address

-- A new dialogue: Idle, without context, components and invocations
-- (Q.774, Transaction state machine).
abbrev pub fresh_dialogue : ℕ → ℕ → ℕ → Dialogue
fresh_dialogue identifier reject_ms idle_ms = record {
  standing = record { identifier = identifier; state = State.fresh; context = None; queue = [] };
  invocations = record { reject_ms = reject_ms; rows = [] };
  idle_ms = idle_ms;
  touched = 0;
  kept = [];
}

-- The dialogue with another queue (own).
abbrev pub with_queue : Dialogue → List Queued → Dialogue
with_queue d queue = record d { standing = record d.standing { queue = queue } }

-- The dialogue with other invocations (own).
abbrev pub with_invocations : Dialogue → InvocationList → Dialogue
with_invocations d invocations = record d { invocations = invocations }

-- The dialogue in another state (own).
abbrev pub in_state : Dialogue → State → Dialogue
in_state d state = record d { standing = record d.standing { state = state } }

-- The dialogue with an application context (own).
abbrev pub in_context : Dialogue → Option (List ℕ) → Dialogue
in_context d context = record d { standing = record d.standing { context = context } }

-- The dialogue, active when the clock stands at a moment (own).
abbrev pub touched_at : Dialogue → ℕ → Dialogue
touched_at d now = record d { touched = now }

-- The dialogue, which keeps another address (own).
abbrev pub keeping : Dialogue → Address → Dialogue
keeping d address = record d { kept = address }

-- Whether a dialogue is live and has been idle too long at a moment (own).
abbrev pub is_idle_at : ℕ → Dialogue → Bool
is_idle_at now d = is_live d.standing.state && is_idle d.idle_ms d.touched now

-- When a dialogue will have been idle too long: none, unless it is live and has an idle limit (own).
abbrev pub idle_end : Dialogue → Option ℕ
idle_end d = if is_live d.standing.state && nat_lt 0 d.idle_ms then Some (d.touched + d.idle_ms) else None

-- An invocation of a dialogue, where there is one (own).
abbrev pub sent_of : ℕ → Option Invocation → Option SentInvocation
sent_of dialogue None = None
sent_of dialogue (Some entry) = Some (record { dialogue = dialogue; number = entry.number; class = entry.class })

-- The invocation of an identifier that is Sent, by the rows of a dialogue (own).
abbrev pub sent_by_rows : ℕ → InvocationList → Option ℤ → Option SentInvocation
sent_by_rows dialogue invocations None = None
sent_by_rows dialogue invocations (Some id) = sent_of dialogue (sent_at invocations.rows id)
