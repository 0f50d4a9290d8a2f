-- The values that the worked examples of dialogues share.
use Rattle.std.specs.Prelude.{ℕ, Bool, ◌==◌, ℤ, pos, List, [], ◌∷◌, ◌++◌, replicate, Option, Some, None}
use Rattle.tcap_component.specs.declared.problem.Kind.TheVariants as kind
use Rattle.tcap_component.specs.Problem.{ProblemParts}
use Rattle.tcap_component.specs.Component.{CodeParts, BodyParts}
use Rattle.tcap_invocation.specs.declared.class.Class.{Class}
use Rattle.tcap_invocation.specs.declared.class.Class.TheVariants.{One}
use Rattle.tcap_examples.specs.Values.Hex.{hex}
use Rattle.tcap_model.specs.Words.Answer.{Answer}
use Rattle.tcap_model.specs.Words.Output.{Output, Closing}
use Rattle.tcap_model.specs.Table.TableMove.{DialogueEvent}
use Rattle.tcap_examples.specs.Dialogues.Played.{Played, opened, play, heard, Ends}
use Rattle.tcap_examples.specs.Values.Asked as asks
use Rattle.tcap_examples.specs.Values.Told as told
use Rattle.tcap_examples.specs.Values.Peer.{sent}

-- An application context, by the contents octets of its object identifier (own).
abbrev pub context : List ℕ
context = hex 7 0x04000001000103

-- The dialogue portion of a Begin: an AARQ with the context, whose version has these four octets (own).
abbrev pub aarq_version : ℕ → List ℕ
aarq_version version =
    hex 17 0x6B1E281C_0607_00118605010101_A011_600F ++ hex 4 version ++ hex 11 0xA109_0607_04000001000103

-- An AARQ with the context, version 1 (own).
abbrev pub aarq : List ℕ
aarq = aarq_version 0x80020780

-- The dialogue portion of an answer: an AARE with the context, version 1, whose result and diagnostic
-- have these twelve octets (own).
abbrev pub aare_result : ℕ → List ℕ
aare_result result = hex 32 0x6B2A2828_0607_00118605010101_A01D_611B_80020780_A109_0607_04000001000103 ++ hex 12 result

-- An AARE that accepts: diagnostic 0 by the user (own).
abbrev pub aare : List ℕ
aare = aare_result 0xA203020100_A305A103020100

-- The code of an operation or of an error, local (own).
abbrev pub code : ℕ → CodeParts
code number = CodeParts.local (pos number)

-- TC-INVOKE of this identifier, class and operation, without parameter and linked identifier, with this
-- timeout in milliseconds (own).
abbrev pub invoke_within : ℕ → ℤ → Class → ℕ → DialogueEvent
invoke_within timeout id class operation =
    DialogueEvent.request (asks.invoke id class (code operation) None None timeout)

-- An Invoke with a timeout of 1000 milliseconds (own).
abbrev pub invoke : ℤ → Class → ℕ → DialogueEvent
invoke id class operation = invoke_within 1000 id class operation

-- TC-BEGIN without application context (own).
abbrev pub plain_begin : DialogueEvent
plain_begin = DialogueEvent.request (asks.begin None [])

-- TC-CONTINUE without application context (own).
abbrev pub go_on : DialogueEvent
go_on = DialogueEvent.request (asks.go_on None [])

-- A dialogue is begun with one Invoke: identifier 1, class 1, operation 10 (own).
abbrev pub one_invoke : List DialogueEvent
one_invoke = invoke (pos 1) One 10 ∷ plain_begin ∷ []

-- What is answered to that: number 1, and the Begin with the Invoke (own).
abbrev pub one_invoke_told : List Answer
one_invoke_told = Answer.number 1 ∷ Answer.outputs
    (sent (hex 18 0x6210_480400000001_6C08_A106020101_02010A) ∷ []) ∷ []

-- An Invoke with a timeout of 10000 milliseconds, and the Begin with it (own).
abbrev pub one_long_invoke : List DialogueEvent
one_long_invoke = invoke_within 10000 (pos 1) One 10 ∷ plain_begin ∷ []

-- The Invoke's invocation is told as ended with its dialogue (own).
abbrev pub first_ended : Output
first_ended = told.closed 1 1 (pos 1) Closing.ended

-- The Invoke's invocation is told as closed by a result that holds nothing (own).
abbrev pub first_result : Output
first_result = told.closed 1 1 (pos 1) (Closing.result_last None)

-- A Continue with the last result of identifier 1 (own).
abbrev pub result_of_first : List ℕ
result_of_first = hex 21 0x6513_480400000005_490400000001_6C05_A203020101

-- A Begin with an Invoke that has a parameter (own).
abbrev pub shown_begin : List ℕ
shown_begin = hex 23 0x6215_480400000001_6C0D_A10B020101_020102_30030401AA

-- What is told of it (own).
abbrev pub shown_begin_told : Answer
shown_begin_told = Answer.outputs (told.begin 1 None []
    ∷ told.invoked (Some 1) (pos 1) None (code 2) (Some (hex 5 0x30030401AA)) ∷ [])

-- A Begin with an AARQ and the same Invoke (own).
abbrev pub begin_with_aarq : List ℕ
begin_with_aarq = hex 8 0x6235_480400000001 ++ aarq ++ hex 15 0x6C0D_A10B020101_020102_30030401AA

-- What is told of it (own).
abbrev pub begin_with_aarq_told : Answer
begin_with_aarq_told =
    Answer.outputs (told.begin 1 (Some context) []
    ∷ told.invoked (Some 1) (pos 1) None (code 2) (Some (hex 5 0x30030401AA)) ∷ [])

-- A general problem (own).
abbrev pub general : ℕ → ProblemParts
general number = record { kind = kind.General; code = number }

-- A problem of an Invoke (own).
abbrev pub of_invoke : ℕ → ProblemParts
of_invoke number = record { kind = kind.Invoke; code = number }

-- A problem of a Return Result (own).
abbrev pub of_result : ℕ → ProblemParts
of_result number = record { kind = kind.Result; code = number }

-- A problem of a Return Error (own).
abbrev pub of_error : ℕ → ProblemParts
of_error number = record { kind = kind.Error; code = number }

-- A code that is no object identifier (own).
abbrev pub bad_code : CodeParts
bad_code = CodeParts.global (hex 1 0x80)

-- A parameter that is no element: it has fewer octets than its length says (own).
abbrev pub bad_parameter : Option (List ℕ)
bad_parameter = Some (hex 3 0x0405AA)

-- A parameter that passes the limit of a queue: an element of 60,000 octets 00 (own).
abbrev pub long_parameter : Option (List ℕ)
long_parameter = Some (hex 4 0x0482EA60 ++ replicate 60000 0)

-- A parameter as long, and no element: it has the tag of the end of an indefinite form (own).
abbrev pub long_bad_parameter : Option (List ℕ)
long_bad_parameter = Some (replicate 60000 0)

-- The body of a result (own).
abbrev pub body : CodeParts → Option (List ℕ) → Option BodyParts
body code parameter = Some (record { code = code; parameter = parameter })

-- A Begin was sent, and a Continue without components was received: the dialogue is active (own).
abbrev pub active : Played
active = play opened (plain_begin ∷ heard (hex 14 0x650C_480400000005_490400000001) ∷ [])

-- A dialogue with one Invoke in its queue: identifier 1, class 1, operation 10 (own).
abbrev pub one_queued : Played
one_queued = play opened (invoke (pos 1) One 10 ∷ [])

-- A dialogue with one Invoke in its queue, of exactly 60,000 octets (own).
abbrev pub full_queue : Played
full_queue = play opened (DialogueEvent.request
    (asks.invoke (pos 1) One (code 10) (Some (hex 4 0x0482EA52 ++ replicate 59986 0)) None 1000) ∷ [])

-- One dialogue is live, that of identifier 1 (own).
abbrev pub is_first_live : ℕ → Bool
is_first_live dialogue = dialogue == 1

-- With the one Invoke sent, these bytes end its dialogue and tell this and that it is ended (own).
abbrev pub EndsTold : List ℕ → Output → Type 0
EndsTold bytes told =
    Ends opened (one_invoke ++ heard bytes ∷ []) (one_invoke_told ++ Answer.outputs (told ∷ first_ended ∷ []) ∷ [])
