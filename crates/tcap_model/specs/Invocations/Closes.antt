-- Which mark closes an invocation, and how: the operation classes, a line for each class and answer.
use Rattle.std.specs.Prelude.{ℕ, ◌+◌, List, Option, Some, None, nat_le, if◌then◌else◌}
use Rattle.tcap_component.specs.Component.{CodeParts, BodyParts}
use Rattle.tcap_invocation.specs.declared.class.Class.{Class}
use Rattle.tcap_invocation.specs.declared.class.Class.TheVariants.{One, Two, Three, Four}
use Rattle.tcap_model.specs.Procedures.Problems.{remote_rejector}
use Rattle.tcap_model.specs.Invocations.Deadline.{sent_clock}
use Rattle.tcap_model.specs.Invocations.Marks.{Mark, Noted}
use Rattle.tcap_model.specs.Words.Output.{Closing, Rejector}
use Rattle.tcap_component.specs.Problem.{unexpected_error, unexpected_result}

-- How a Return Result Last closes an invocation that is Sent: by the result, and where the class
-- reports no success by a Reject from here, "return result unexpected"
-- (Q.774, Component sublayer procedures).
abbrev pub closing_by_last : Class → Option BodyParts → Option Closing
closing_by_last One body = Some (Closing.result_last body)
closing_by_last Two body = Some (Closing.rejected unexpected_result Rejector.local)
closing_by_last Three body = Some (Closing.result_last body)
closing_by_last Four body = Some (Closing.rejected unexpected_result Rejector.local)

-- How a Return Result Not Last does: it closes nothing, and where the class reports no success it is
-- rejected as a Return Result Last is (Q.774, Component sublayer procedures).
abbrev pub closing_by_more : Class → Option Closing
closing_by_more One = None
closing_by_more Two = Some (Closing.rejected unexpected_result Rejector.local)
closing_by_more Three = None
closing_by_more Four = Some (Closing.rejected unexpected_result Rejector.local)

-- How a Return Error does: by the error, and where the class reports no failure by a Reject from here,
-- "return error unexpected" (Q.774, Component sublayer procedures).
abbrev pub closing_by_error : Class → CodeParts → Option (List ℕ) → Option Closing
closing_by_error One code parameter = Some (Closing.error_back code parameter)
closing_by_error Two code parameter = Some (Closing.error_back code parameter)
closing_by_error Three code parameter = Some (Closing.rejected unexpected_error Rejector.local)
closing_by_error Four code parameter = Some (Closing.rejected unexpected_error Rejector.local)

-- How a mark closes an invocation of this class and timeout: before its Invoke went out only by the
-- user or by the end of its dialogue; after it, at the clock that is given, by an answer too, by a
-- Reject of the Invoke whatever the class, and by a moment at or past its deadline
-- (Q.774, Invocation state machine).
abbrev pub closing_of : Class → ℕ → Option ℕ → Mark → Option Closing
closing_of class timeout sent Mark.sent = None
closing_of class timeout sent Mark.end = Some Closing.ended
closing_of class timeout sent Mark.given_up = Some Closing.given_up
closing_of class timeout None (Mark.moment now) = None
closing_of class timeout None (Mark.last body) = None
closing_of class timeout None (Mark.more body) = None
closing_of class timeout None (Mark.error code parameter) = None
closing_of class timeout None (Mark.reject problem) = None
closing_of class timeout (Some sent) (Mark.moment now) =
    if nat_le (sent + timeout) now then Some Closing.lapsed else None
closing_of class timeout (Some sent) (Mark.last body) = closing_by_last class body
closing_of class timeout (Some sent) (Mark.more body) = closing_by_more class
closing_of class timeout (Some sent) (Mark.error code parameter) = closing_by_error class code parameter
closing_of class timeout (Some sent) (Mark.reject problem) = Some (Closing.rejected problem (remote_rejector problem))

-- How a mark closes an invocation, by the marks before it in its span
-- (Q.774, Invocation state machine).
abbrev pub closes : Class → ℕ → List Noted → Noted → Option Closing
closes class timeout before noted = closing_of class timeout (sent_clock before) noted.mark
