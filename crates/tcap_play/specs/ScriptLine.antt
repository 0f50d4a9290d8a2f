-- What the lines of a script ask for.
use Rattle.std.specs.Prelude.{ℕ, List, [], ◌∷◌, Option, Some, None, codes, bytes_eq, if◌then◌else◌}
use Rattle.std.specs.Option.{option_map}
use Rattle.ber_core.specs.Options.{◌>>=◌}
use Rattle.tcap_model.specs.Words.Address.{Address}
use Rattle.tcap_model.specs.Words.Event.{Event}
use Rattle.tcap_model.specs.Words.Request.{ComponentRequest, DialogueRequest, Ending, Request}
use Rattle.tcap_play.specs.ScriptWords.{MessageName, engine_of, name_of, milliseconds_of, dialogue_of, identifier_of}
use Rattle.tcap_play.specs.ScriptWords.{optional_identifier_of, class_of, code_of, octets_of, named_address, optional_octets_of, body_of, problem_of, reason_of}
use Rattle.tcap_play.specs.Sides.{Engine, address_of, far}

-- What a line asks for: a call on one engine; that a message is received on the other side, again, or
-- never; that both clocks are at a moment (own).
pub data ScriptLine : Type 0 where
  call : (engine : Engine) (event : Event) → ScriptLine
  deliver : (name : MessageName) → ScriptLine
  again : (name : MessageName) → ScriptLine
  lose : (name : MessageName) → ScriptLine
  advance : (now : ℕ) → ScriptLine

-- A call on the engine of a letter (own).
abbrev pub called_on : List ℕ → Event → Option ScriptLine
called_on side event = do
  engine ← engine_of side
  Some (ScriptLine.call engine event)

-- Octets that the engine of a letter receives, from the other engine's address (own).
abbrev pub received_on : List ℕ → List ℕ → Option ScriptLine
received_on side octets = do
  engine ← engine_of side
  Some (ScriptLine.call engine (Event.received (address_of (far engine)) octets))

-- Octets that the engine of a letter receives from another address (own).
abbrev pub received_from : List ℕ → List ℕ → List ℕ → Option ScriptLine
received_from side from octets = do
  from ← named_address from
  octets ← octets_of octets
  called_on side (Event.received from octets)

-- A request on a dialogue of the engine of a letter (own).
abbrev pub asked_on : List ℕ → List ℕ → Request → Option ScriptLine
asked_on side dialogue request = do
  engine ← engine_of side
  dialogue ← dialogue_of dialogue
  Some (ScriptLine.call engine (Event.on_dialogue dialogue request))

-- ---- requests

-- The request of dialogue handling of this name, with a destination where it has one (own).
abbrev pub portion_request_named : Address → List ℕ → Option (List ℕ) → List ℕ → Option DialogueRequest
portion_request_named to name context information =
    if bytes_eq name (codes "uni") then Some (DialogueRequest.uni to context information)
    else if bytes_eq name (codes "begin") then Some (DialogueRequest.begin to context information)
    else if bytes_eq name (codes "continue") then Some (DialogueRequest.go_on context information)
    else if bytes_eq name (codes "end") then Some (DialogueRequest.finish Ending.basic context information)
    else None

-- A request of dialogue handling with a destination where it has one, a context and user information (own).
abbrev pub portion_request_of : Address → List ℕ → List ℕ → List ℕ → Option Request
portion_request_of to name context information = do
  context ← optional_octets_of context
  information ← octets_of information
  request ← portion_request_named to name context information
  Some (Request.dialogue request)

-- A request of dialogue handling made on the engine of a letter, whose messages go to the other engine
-- (own).
abbrev pub portion_request_on : List ℕ → List ℕ → List ℕ → List ℕ → Option Request
portion_request_on side name context information = do
  engine ← engine_of side
  portion_request_of (address_of (far engine)) name context information

-- A request to begin a dialogue with another address (own).
abbrev pub begin_request_of : List ℕ → List ℕ → List ℕ → Option Request
begin_request_of to context information = do
  to ← named_address to
  portion_request_of to (codes "begin") context information

-- A request to abort, for a reason (own).
abbrev pub abort_request_of : List ℕ → List ℕ → Option Request
abort_request_of reason information = do
  reason ← reason_of reason
  information ← octets_of information
  Some (Request.dialogue (DialogueRequest.u_abort reason information))

-- The last result, with a body or none (own).
abbrev pub last_request_of : List ℕ → List ℕ → List ℕ → Option Request
last_request_of id code parameter = do
  id ← identifier_of id
  body ← body_of code parameter
  Some (Request.component (ComponentRequest.result_last id body))

-- A result that isn't the last, with a body or none (own).
abbrev pub more_request_of : List ℕ → List ℕ → List ℕ → Option Request
more_request_of id code parameter = do
  id ← identifier_of id
  body ← body_of code parameter
  Some (Request.component (ComponentRequest.result_more id body))

-- That the user gives an invocation up (own).
abbrev pub cancel_request_of : List ℕ → Option Request
cancel_request_of id = do
  id ← identifier_of id
  Some (Request.component (ComponentRequest.u_cancel id))

-- An error (own).
abbrev pub error_request_of : List ℕ → List ℕ → List ℕ → Option Request
error_request_of id code parameter = do
  id ← identifier_of id
  code ← code_of code
  parameter ← optional_octets_of parameter
  Some (Request.component (ComponentRequest.error_back id code parameter))

-- A Reject (own).
abbrev pub reject_request_of : List ℕ → List ℕ → List ℕ → Option Request
reject_request_of id kind code = do
  id ← optional_identifier_of id
  problem ← problem_of kind code
  Some (Request.component (ComponentRequest.u_reject id problem))

-- An Invoke, behind its identifier (own).
abbrev pub invoke_request_of : List ℕ → List ℕ → List ℕ → List ℕ → List ℕ → List ℕ → Option Request
invoke_request_of id class code timeout linked parameter = do
  id ← identifier_of id
  class ← class_of class
  code ← code_of code
  timeout ← milliseconds_of timeout
  linked ← optional_identifier_of linked
  parameter ← optional_octets_of parameter
  Some (Request.component (ComponentRequest.invoke id class code parameter linked timeout))

-- ---- lines, by the number of their words

-- `S new`, `deliver M`, `again M`, `lose M`, `advance MS` (own).
abbrev pub line_of_two : List ℕ → List ℕ → Option ScriptLine
line_of_two first second =
    if bytes_eq first (codes "deliver") then option_map (λ name. ScriptLine.deliver name) (name_of second)
    else if bytes_eq first (codes "again") then option_map (λ name. ScriptLine.again name) (name_of second)
    else if bytes_eq first (codes "lose") then option_map (λ name. ScriptLine.lose name) (name_of second)
    else if bytes_eq first (codes "advance") then option_map (λ now. ScriptLine.advance now) (milliseconds_of second)
    else if bytes_eq second (codes "new") then called_on first Event.new_dialogue
    else None

-- `S raw HEX`, `S prearranged D` (own).
abbrev pub line_of_three : List ℕ → List ℕ → List ℕ → Option ScriptLine
line_of_three side name word =
    if bytes_eq name (codes "raw") then octets_of word >>= received_on side
    else if bytes_eq name (codes "prearranged")
    then asked_on side word (Request.dialogue (DialogueRequest.finish Ending.prearranged None []))
    else None

-- `S cancel D ID`, `S rawfrom ADDR HEX` (own).
abbrev pub line_of_four : List ℕ → List ℕ → List ℕ → List ℕ → Option ScriptLine
line_of_four side name third last =
    if bytes_eq name (codes "cancel") then cancel_request_of last >>= asked_on side third
    else if bytes_eq name (codes "rawfrom") then received_from side third last
    else None

-- `S begin D CONTEXT INFO`, and `uni`, `continue`, `end`; `S abort D user INFO`, `S abort D unsupported INFO`
-- (own).
abbrev pub line_of_five : List ℕ → List ℕ → List ℕ → List ℕ → List ℕ → Option ScriptLine
line_of_five side name dialogue word information =
    if bytes_eq name (codes "abort") then abort_request_of word information >>= asked_on side dialogue
    else portion_request_on side name word information >>= asked_on side dialogue

-- `S last D ID CODE PARAM`, `S more D ID CODE PARAM`, `S error D ID CODE PARAM`, `S reject D ID KIND CODE`,
-- `S beginto D ADDR CONTEXT INFO` (own).
abbrev pub line_of_six : List ℕ → List ℕ → List ℕ → List ℕ → List ℕ → List ℕ → Option ScriptLine
line_of_six side name dialogue id word last =
    if bytes_eq name (codes "last") then last_request_of id word last >>= asked_on side dialogue
    else if bytes_eq name (codes "more") then more_request_of id word last >>= asked_on side dialogue
    else if bytes_eq name (codes "error") then error_request_of id word last >>= asked_on side dialogue
    else if bytes_eq name (codes "reject") then reject_request_of id word last >>= asked_on side dialogue
    else if bytes_eq name (codes "beginto") then begin_request_of id word last >>= asked_on side dialogue
    else None

-- `S invoke D ID CLASS CODE TIMEOUT LINKED PARAM`, whose last six words ask for this request (own).
abbrev pub line_of_nine : List ℕ → List ℕ → List ℕ → Option Request → Option ScriptLine
line_of_nine side name dialogue request =
    if bytes_eq name (codes "invoke") then request >>= asked_on side dialogue else None

-- What the words of a line ask for; none where they have no form of a script (own).
abbrev pub line_of : List (List ℕ) → Option ScriptLine
line_of (first ∷ second ∷ []) = line_of_two first second
line_of (side ∷ name ∷ word ∷ []) = line_of_three side name word
line_of (side ∷ name ∷ third ∷ last ∷ []) = line_of_four side name third last
line_of (side ∷ name ∷ dialogue ∷ word ∷ information ∷ []) = line_of_five side name dialogue word information
line_of (side ∷ name ∷ dialogue ∷ id ∷ word ∷ last ∷ []) = line_of_six side name dialogue id word last
line_of (side ∷ name ∷ dialogue ∷ id ∷ class ∷ code ∷ timeout ∷ linked ∷ parameter ∷ []) =
    line_of_nine side name dialogue (invoke_request_of id class code timeout linked parameter)
line_of words = None
