-- The outcome of an invocation: what the first mark that closes it gives.
use Rattle.std.specs.Prelude.{ℕ, ◌&&◌, List, [], ◌∷◌, ◌++◌, Bool, Option, Some, None, is_some, is_none}
use Rattle.std.specs.Option.{option_or}
use Rattle.tcap_invocation.specs.declared.class.Class.{Class}
use Rattle.tcap_model.specs.Invocations.Closes.{closes}
use Rattle.tcap_model.specs.Invocations.Deadline.{is_sent, sent_clock}
use Rattle.tcap_model.specs.Invocations.Invocation.{Invocation, invocation_of}
use Rattle.tcap_model.specs.Invocations.Marks.{Noted}
use Rattle.tcap_model.specs.Words.Output.{Closing}
use Rattle.tcap_model.specs.Histories.Pair.{Past}
use Rattle.tcap_model.specs.Invocations.Span.{up_to, span}

-- What the first of some marks that closes gives, each judged by those before it (own).
abbrev pub closing_after : Class → ℕ → List Noted → List Noted → Option Closing
closing_after class timeout before [] = None
closing_after class timeout before (noted ∷ others) =
    option_or (closes class timeout before noted) (closing_after class timeout (before ++ noted ∷ []) others)

-- What the first mark of a span that closes gives (own).
abbrev pub first_closing : Class → ℕ → List Noted → Option Closing
first_closing class timeout marks = closing_after class timeout [] marks

-- The invocation is sent: its Invoke went out, and no mark closes it (Q.774, Operation Sent).
abbrev pub is_sent_in : Class → ℕ → List Noted → Bool
is_sent_in class timeout marks = is_some (sent_clock marks) && is_none (first_closing class timeout marks)

-- The invocation was sent: its Invoke went out, and no mark before that closes it. What closes it after
-- that doesn't matter, be it in the same event (Q.774, Operation Sent).
abbrev pub was_sent_in : Class → ℕ → List Noted → Bool
was_sent_in class timeout marks =
    is_some (sent_clock marks) && is_none (first_closing class timeout
    (up_to (λ (noted : Noted). is_sent noted.mark) marks))

-- The outcome of an invocation, where there is one (own).
abbrev pub outcome_of : Option Invocation → Past → Option Closing
outcome_of None past = None
outcome_of (Some i) past = first_closing i.class i.timeout (span i past)

-- The outcome of the invocation of a number: none, or what the first mark that closes it gives (own).
abbrev pub outcome : ℕ → Past → Option Closing
outcome n past = outcome_of (invocation_of n past) past
