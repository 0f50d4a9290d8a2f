-- Whether an invocation is Sent, at a component of a message.
use Rattle.std.specs.Prelude.{ℕ, ℤ, List, ◌++◌, map, Option, Some, None, if◌then◌else◌}
use Rattle.tcap_model.specs.Histories.Clock.{clock}
use Rattle.tcap_model.specs.Histories.Pair.{Past}
use Rattle.tcap_model.specs.Invocations.Invocation.{Invocation, latest}
use Rattle.tcap_model.specs.Invocations.Marks.{Noted, component_marks}
use Rattle.tcap_model.specs.Invocations.Outcome.{is_sent_in}
use Rattle.tcap_model.specs.Invocations.Span.{span}
use Rattle.tcap_model.specs.Procedures.ComponentHandling.{Item, SentInvocation}

-- The marks of an invocation up to a component: those of its span, and those of the earlier components
-- of the same message (own).
abbrev pub marks_up_to : Past → List Item → Invocation → List Noted
marks_up_to past earlier i =
    span i past ++ map (λ mark. record { clock = clock past; mark = mark }) (component_marks i.id earlier)

-- An invocation, if it is Sent at a component: it has a Sent mark and no closing mark up to there
-- (Q.774, Operation Sent).
abbrev pub if_sent : Past → List Item → Option Invocation → Option SentInvocation
if_sent past earlier None = None
if_sent past earlier (Some i) =
    if is_sent_in i.class i.timeout (marks_up_to past earlier i)
    then Some (record { dialogue = i.dialogue; number = i.number; class = i.class }) else None

-- The invocation that is Sent for an identifier of a dialogue, at a component: the latest one with that
-- identifier, if it is Sent there (Q.774, Component handling).
abbrev pub sent_there : ℕ → Past → List Item → Option ℤ → Option SentInvocation
sent_there dialogue past earlier None = None
sent_there dialogue past earlier (Some id) = if_sent past earlier (latest dialogue id past)
