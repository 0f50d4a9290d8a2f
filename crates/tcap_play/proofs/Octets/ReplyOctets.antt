-- Messages of octets; and what is told, which sends none.
use Rattle.std.proofs.Common.{◌≡◌, ℕ, ℤ, Bool, true, false, List, [], ◌∷◌, ◌++◌, filter_map, ◌==◌, ◌&&◌, is_none, Option, Some, None, Result, Ok, Err, if◌then◌else◌, inl, inr}
use Rattle.std.specs.List.{AllByRecursion, cons_option}
use Rattle.std.proofs.lemmas.Bool.{cases_Bool}
use Rattle.tcap_pdu.specs.declared.fault.DialogueFault.{DialogueFault}
use Rattle.tcap_pdu.specs.DialogueReading.{dialogue_at}
use Rattle.tcap_pdu.specs.DialogueSpelling.{PduValue, Source}
use Rattle.tcap_pdu.specs.DialogueSpelling.PduValue.{aarq, audt, aare, abrt, foreign}
use Rattle.tcap_pdu.specs.FrameSpelling.{Message, Reason, fields}
use Rattle.tcap_pdu.specs.FrameWritten.{written_frame}
use Rattle.tcap_component.specs.Component.{CodeParts, BodyParts}
use Rattle.tcap_component.specs.Component.ComponentParts.{invoke, result_last, error_back, reject_back, result_more}
use Rattle.tcap_component.specs.ComponentReading.{components_of}
use Rattle.tcap_component.specs.Problem.{ProblemParts}
use Rattle.tcap_invocation.specs.Class.{reports_success, reports_failure}
use Rattle.tcap_model.specs.Histories.Pair.{Past}
use Rattle.tcap_model.specs.Invocations.Invocation.{Invocation, invocations}
use Rattle.tcap_model.specs.Invocations.Outcome.{first_closing}
use Rattle.tcap_model.specs.Invocations.SentThere.{marks_up_to, sent_there}
use Rattle.tcap_model.specs.Procedures.AbortRules.{is_no_common, portion_told, abort_told}
use Rattle.tcap_model.specs.Procedures.ComponentHandling.{Item, SentInvocation, handled, last_by, more_by, error_by, reject_by, subject_of, told_of, uni_told}
use Rattle.tcap_model.specs.Procedures.Problems.{is_of_answer}
use Rattle.tcap_model.specs.Replies.Queue.{handled_after, handled_in}
use Rattle.tcap_model.specs.Replies.Reply.{ended_of, ended_in, marks_up_to_moment, ended_at_moment, idle_told}
use Rattle.tcap_model.specs.Words.Output.{Output, Closing, ComponentIndication}
use Rattle.tcap_play.proofs.Octets.OctetLists.{FieldsFine}

-- octets that are a message of octets
pub record FineMessage (bytes : List ℕ) : Type 0 where
  pub message : Message
  pub is_written : bytes ≡ written_frame message
  pub fine : FieldsFine (fields message)

-- what is sent is such a message
abbrev pub SendsFine : Output → Type 0
SendsFine (Output.send to bytes) = FineMessage bytes
SendsFine (Output.dialogue told) = Unit {0}
SendsFine (Output.component told) = Unit {0}
SendsFine (Output.dropped why) = Unit {0}

abbrev pub AllSendFine : List Output → Type 0
AllSendFine outputs = AllByRecursion SendsFine outputs

pub sends-append : (outputs more : List Output) → AllSendFine outputs → AllSendFine more → AllSendFine (outputs ++ more)
sends-append [] more a b = b
sends-append (output ∷ outputs) more a b = (a.0, sends-append outputs more a.1 b)

-- ---- what is told

last-told : (sent : SentInvocation) (id : ℤ) (body : Option BodyParts) (reports : Bool) → SendsFine (last_by sent id body reports).told
last-told sent id body true = tt
last-told sent id body false = tt

more-told : (sent : SentInvocation) (id : ℤ) (body : Option BodyParts) (reports : Bool) → SendsFine (more_by sent id body reports).told
more-told sent id body true = tt
more-told sent id body false = tt

error-told : (sent : SentInvocation) (id : ℤ) (code : CodeParts) (parameter : Option (List ℕ)) (reports : Bool)
    → SendsFine (error_by sent id code parameter reports).told
error-told sent id code parameter true = tt
error-told sent id code parameter false = tt

rejected-told : (sent : SentInvocation) (id : ℤ) (problem : ProblemParts) (of_answer : Bool)
    → SendsFine (reject_by sent id problem of_answer).told
rejected-told sent id problem true = tt
rejected-told sent id problem false = tt

handled-told : (dialogue : Option ℕ) (sent : Option SentInvocation) (item : Item) → SendsFine (handled dialogue sent item).told
handled-told dialogue sent (Ok (invoke id None code parameter)) = tt
handled-told dialogue (Some sent) (Ok (invoke id (Some linked) code parameter)) = tt
handled-told dialogue None (Ok (invoke id (Some linked) code parameter)) = tt
handled-told dialogue None (Ok (result_last id body)) = tt
handled-told dialogue (Some sent) (Ok (result_last id body)) = last-told sent id body (reports_success sent.class)
handled-told dialogue None (Ok (result_more id body)) = tt
handled-told dialogue (Some sent) (Ok (result_more id body)) = more-told sent id body (reports_success sent.class)
handled-told dialogue None (Ok (error_back id code parameter)) = tt
handled-told dialogue (Some sent) (Ok (error_back id code parameter)) = error-told sent id code parameter (reports_failure sent.class)
handled-told dialogue sent (Ok (reject_back None problem)) = tt
handled-told dialogue None (Ok (reject_back (Some id) problem)) = tt
handled-told dialogue (Some sent) (Ok (reject_back (Some id) problem)) = rejected-told sent id problem (is_of_answer problem.kind)
handled-told dialogue sent (Err f) = tt

after-told : (dialogue : ℕ) (past : Past) (earlier all : List Item) → AllSendFine (told_of (handled_after dialogue past earlier all))
after-told dialogue past earlier [] = tt
after-told dialogue past earlier (item ∷ all) = (
  handled-told (Some dialogue) (sent_there dialogue past earlier (subject_of item)) item,
  after-told dialogue past (earlier ++ item ∷ []) all,
)

pub components-told : (dialogue : ℕ) (past : Past) (components : List ℕ) → AllSendFine (told_of (handled_in dialogue past components))
components-told dialogue past components = after-told dialogue past [] (components_of components)

pub uni-told : (all : List Item) → AllSendFine (uni_told all)
uni-told [] = tt
uni-told (item ∷ all) = (handled-told None None item, uni-told all)

-- an invocation that is told as ended, if it is
one-ended : (dialogue : ℕ) (i : Invocation) (others : List Output) (test : Bool) → AllSendFine others
    → AllSendFine (cons_option (if test then Some (Output.component (ComponentIndication.closed dialogue i.number i.id Closing.ended)) else None) others)
one-ended dialogue i others true all = (tt, all)
one-ended dialogue i others false all = all

pub ended-told : (dialogue : ℕ) (past : Past) (components : List Item) → AllSendFine (ended_in dialogue past components)
ended-told dialogue past components = go (invocations past)
  where
    still_open : Invocation → Bool
    still_open i = is_none (first_closing i.class i.timeout (marks_up_to past components i))

    go : (is : List Invocation) → AllSendFine (filter_map (ended_of dialogue past components) is)
    go [] = tt
    go (i ∷ is) = one-ended dialogue i (filter_map (ended_of dialogue past components) is) ((i.dialogue == dialogue) && still_open i) (go is)

-- what is told of a dialogue that was idle too long
pub idle-told : (past : Past) (now dialogue : ℕ) → AllSendFine (idle_told past now dialogue)
idle-told past now dialogue = (tt, go (invocations past))
  where
    still_open : Invocation → Bool
    still_open i = is_none (first_closing i.class i.timeout (marks_up_to_moment past now i))

    go : (is : List Invocation) → AllSendFine (filter_map (ended_at_moment dialogue past now) is)
    go [] = tt
    go (i ∷ is) = one-ended dialogue i (filter_map (ended_at_moment dialogue past now) is) ((i.dialogue == dialogue) && still_open i) (go is)

response-told : (dialogue : ℕ) (version1 : Bool) (context : List ℕ) (diagnostic : Source) (info : List ℕ)
    → SendsFine (portion_told dialogue (Ok (aare version1 context false diagnostic info)))
response-told dialogue version1 context diagnostic info = elim (cases_Bool (is_no_common diagnostic)) [
  | inl is ↦ rw is tt
  | inr isnt ↦ rw isnt tt
]

portion-told : (dialogue : ℕ) (read : Result PduValue DialogueFault) → SendsFine (portion_told dialogue read)
portion-told dialogue (Ok (abrt true info)) = tt
portion-told dialogue (Ok (abrt false info)) = tt
portion-told dialogue (Ok (foreign external)) = tt
portion-told dialogue (Ok (aare version1 context true diagnostic info)) = tt
portion-told dialogue (Ok (aare version1 context false diagnostic info)) = response-told dialogue version1 context diagnostic info
portion-told dialogue (Ok (aarq version1 context info)) = tt
portion-told dialogue (Ok (audt version1 context info)) = tt
portion-told dialogue (Err f) = tt

pub abort-told : (dialogue : ℕ) (reason : Reason) → SendsFine (abort_told dialogue reason)
abort-told dialogue Reason.nothing = tt
abort-told dialogue (Reason.cause n) = tt
abort-told dialogue (Reason.portion content) = portion-told dialogue (dialogue_at content)
