-- What the lines ask of the engine.
use Rattle.std.specs.Prelude.{ℕ, List, [], ◌∷◌, Option, Some, None, codes, bytes_eq, if◌then◌else◌}
use Rattle.std.specs.Option.{option_map, option_or}
use Rattle.std.specs.Result.{result_ok}
use Rattle.ber_core.specs.Options.{◌>>=◌}
use Rattle.object_identifiers.specs.Contents.{object_identifier_at}
use Rattle.tcap_model.specs.Words.Address.{Address}
use Rattle.tcap_model.specs.Words.Event.{Event}
use Rattle.tcap_model.specs.Words.Request.{DialogueRequest, Ending, Request}
use Rattle.tcap_play.specs.ScriptLine.{abort_request_of, cancel_request_of, error_request_of, invoke_request_of, last_request_of, more_request_of, reject_request_of}
use Rattle.tcap_play.specs.ScriptWords.{dialogue_of, milliseconds_of, named_address, octets_of, optional_octets_of}

-- What a line asks for: that an event comes to the engine; when its next timer is due; the state of a
-- dialogue (own).
pub data LiveLine : Type 0 where
  call : (event : Event) → LiveLine
  timer : LiveLine
  state : (dialogue : ℕ) → LiveLine

-- A request on a dialogue (own).
abbrev pub asked_on : List ℕ → Request → Option LiveLine
asked_on dialogue request = do
  dialogue ← dialogue_of dialogue
  Some (LiveLine.call (Event.on_dialogue dialogue request))

-- Octets that are received from an address (own).
abbrev pub received_from : List ℕ → List ℕ → Option LiveLine
received_from from octets = do
  from ← named_address from
  octets ← octets_of octets
  Some (LiveLine.call (Event.received from octets))

-- ---- requests with a dialogue portion

-- An application context name in dotted form: the contents octets of its object identifier (own).
abbrev pub dotted_context_of : List ℕ → Option (Option (List ℕ))
dotted_context_of word = option_map (λ octets. Some octets) (result_ok (object_identifier_at word))

-- An application context name: `-` for none, its contents octets in hexadecimal, or else its dotted form
-- (own).
abbrev pub context_of : List ℕ → Option (Option (List ℕ))
context_of word = option_or (optional_octets_of word) (dotted_context_of word)

-- The request of this name that opens an exchange with an address (own).
abbrev pub opening_named : List ℕ → Address → Option (List ℕ) → List ℕ → Option Request
opening_named name to context information =
    if bytes_eq name (codes "begin") then Some (Request.dialogue (DialogueRequest.begin to context information))
    else if bytes_eq name (codes "uni") then Some (Request.dialogue (DialogueRequest.uni to context information))
    else None

-- A request that opens an exchange, by its words (own).
abbrev pub opening_request_of : List ℕ → List ℕ → List ℕ → List ℕ → Option Request
opening_request_of name to context information = do
  to ← named_address to
  context ← context_of context
  information ← octets_of information
  opening_named name to context information

-- The request of this name on a dialogue that has a peer (own).
abbrev pub answering_named : List ℕ → Option (List ℕ) → List ℕ → Option Request
answering_named name context information =
    if bytes_eq name (codes "continue") then Some (Request.dialogue (DialogueRequest.go_on context information))
    else if bytes_eq name (codes "end") then Some (Request.dialogue (DialogueRequest.finish Ending.basic context information))
    else None

-- A request on a dialogue that has a peer, by its words (own).
abbrev pub answering_request_of : List ℕ → List ℕ → List ℕ → Option Request
answering_request_of name context information = do
  context ← context_of context
  information ← octets_of information
  answering_named name context information

-- ---- lines, by the number of their words

-- `new`, `timer` (own).
abbrev pub line_of_one : List ℕ → Option LiveLine
line_of_one name =
    if bytes_eq name (codes "new") then Some (LiveLine.call Event.new_dialogue)
    else if bytes_eq name (codes "timer") then Some LiveLine.timer
    else None

-- `advance MS`, `state D`, `prearranged D` (own).
abbrev pub line_of_two : List ℕ → List ℕ → Option LiveLine
line_of_two name word =
    if bytes_eq name (codes "advance") then option_map (λ now. LiveLine.call (Event.moment now)) (milliseconds_of word)
    else if bytes_eq name (codes "state") then option_map (λ dialogue. LiveLine.state dialogue) (dialogue_of word)
    else if bytes_eq name (codes "prearranged")
    then asked_on word (Request.dialogue (DialogueRequest.finish Ending.prearranged None []))
    else None

-- `cancel D ID`, `receive ADDR HEX` (own).
abbrev pub line_of_three : List ℕ → List ℕ → List ℕ → Option LiveLine
line_of_three name word last =
    if bytes_eq name (codes "cancel") then cancel_request_of last >>= asked_on word
    else if bytes_eq name (codes "receive") then received_from word last
    else None

-- `abort D user INFO`, `abort D unsupported INFO`, `continue D CONTEXT INFO`, `end D CONTEXT INFO` (own).
abbrev pub line_of_four : List ℕ → List ℕ → List ℕ → List ℕ → Option LiveLine
line_of_four name dialogue word information =
    if bytes_eq name (codes "abort") then abort_request_of word information >>= asked_on dialogue
    else answering_request_of name word information >>= asked_on dialogue

-- `last D ID CODE PARAM`, `more D ID CODE PARAM`, `error D ID CODE PARAM`, `reject D ID KIND CODE`,
-- `begin D ADDR CONTEXT INFO`, `uni D ADDR CONTEXT INFO` (own).
abbrev pub line_of_five : List ℕ → List ℕ → List ℕ → List ℕ → List ℕ → Option LiveLine
line_of_five name dialogue third fourth last =
    if bytes_eq name (codes "last") then last_request_of third fourth last >>= asked_on dialogue
    else if bytes_eq name (codes "more") then more_request_of third fourth last >>= asked_on dialogue
    else if bytes_eq name (codes "error") then error_request_of third fourth last >>= asked_on dialogue
    else if bytes_eq name (codes "reject") then reject_request_of third fourth last >>= asked_on dialogue
    else opening_request_of name third fourth last >>= asked_on dialogue

-- `invoke D ID CLASS CODE TIMEOUT LINKED PARAM`, whose last six words ask for this request (own).
abbrev pub line_of_eight : List ℕ → List ℕ → Option Request → Option LiveLine
line_of_eight name dialogue request =
    if bytes_eq name (codes "invoke") then request >>= asked_on dialogue else None

-- What the words of a line ask for; none where they have no form of a line (own).
abbrev pub line_of : List (List ℕ) → Option LiveLine
line_of (name ∷ []) = line_of_one name
line_of (name ∷ word ∷ []) = line_of_two name word
line_of (name ∷ word ∷ last ∷ []) = line_of_three name word last
line_of (name ∷ dialogue ∷ word ∷ information ∷ []) = line_of_four name dialogue word information
line_of (name ∷ dialogue ∷ third ∷ fourth ∷ last ∷ []) = line_of_five name dialogue third fourth last
line_of (name ∷ dialogue ∷ id ∷ class ∷ code ∷ timeout ∷ linked ∷ parameter ∷ []) =
    line_of_eight name dialogue (invoke_request_of id class code timeout linked parameter)
line_of words = None
