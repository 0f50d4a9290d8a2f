-- The numbers of an event are those that its types hold.
use Rattle.std.specs.Prelude.{ℕ, ℤ, pos, negsuc, ◌^◌, ◌-◌, ◌&&◌, Bool, true, List, length, Option, Some, None}
use Rattle.std.specs.Prelude.{IsTrue, nat_lt, nat_le, int_le}
use Rattle.std.specs.List.{list_all}
use Rattle.tcap_component.specs.Problem.{ProblemParts, problem_limit}
use Rattle.tcap_component.specs.Component.{CodeParts, BodyParts}
use Rattle.tcap_component.specs.Component.CodeParts.{local, global}
use Rattle.tcap_model.specs.Words.Address.{Address}
use Rattle.tcap_model.specs.Words.Request.{Request, ComponentRequest, DialogueRequest}
use Rattle.tcap_model.specs.Words.Event.{Event}
use Rattle.tcap_model.specs.Words.Event.Event.{new_dialogue, on_dialogue, received, moment}

-- Each is an octet (own).
abbrev pub are_octets : List ℕ → Bool
are_octets bytes = list_all (λ b. nat_lt b 0x100) bytes

-- Each is an octet, where there are any (own).
abbrev pub are_octets_if_any : Option (List ℕ) → Bool
are_octets_if_any None = true
are_octets_if_any (Some bytes) = are_octets bytes

-- An address has at most 255 octets (own).
abbrev pub is_address : Address → Bool
is_address address = nat_le (length address) 255 && are_octets address

-- An invoke identifier is a number from -128 to 127 (Q.773, Invoke ID).
abbrev pub is_identifier : ℤ → Bool
is_identifier id = int_le (negsuc 127) id && int_le id (pos 127)

-- Whether an identifier is one octet, where there is one (Q.773, Invoke ID).
abbrev pub is_identifier_if_any : Option ℤ → Bool
is_identifier_if_any None = true
is_identifier_if_any (Some id) = is_identifier id

-- A local code has at most four octets; of a global one these are the octets (own).
abbrev pub is_code : CodeParts → Bool
is_code (local number) = int_le (negsuc (2 ^ 31 - 1)) number && int_le number (pos (2 ^ 31 - 1))
is_code (global octets) = are_octets octets

-- The code and the parameter of a body (own).
abbrev pub is_body : Option BodyParts → Bool
is_body None = true
is_body (Some body) = is_code body.code && are_octets_if_any body.parameter

-- A problem's code is at most 7F (own).
abbrev pub is_problem : ProblemParts → Bool
is_problem p = nat_le p.code problem_limit

-- A number of 64 bits: a timeout or a moment (own).
abbrev pub is_long : ℕ → Bool
is_long n = nat_lt n (2 ^ 64)

-- A number of 32 bits: a dialogue identifier (own).
abbrev pub is_short : ℕ → Bool
is_short n = nat_lt n (2 ^ 32)

-- The numbers of a request are those that its types hold (own).
abbrev pub is_request : Request → Bool
is_request (Request.component (ComponentRequest.invoke id class code parameter linked timeout)) =
    is_identifier id && is_code code && are_octets_if_any parameter && is_identifier_if_any linked && is_long timeout
is_request (Request.component (ComponentRequest.result_last id body)) = is_identifier id && is_body body
is_request (Request.component (ComponentRequest.result_more id body)) = is_identifier id && is_body body
is_request (Request.component (ComponentRequest.error_back id code parameter)) =
    is_identifier id && is_code code && are_octets_if_any parameter
is_request (Request.component (ComponentRequest.u_reject id problem)) = is_identifier_if_any id && is_problem problem
is_request (Request.component (ComponentRequest.u_cancel id)) = is_identifier id
is_request (Request.dialogue (DialogueRequest.uni to context info)) =
    is_address to && are_octets_if_any context && are_octets info
is_request (Request.dialogue (DialogueRequest.begin to context info)) =
    is_address to && are_octets_if_any context && are_octets info
is_request (Request.dialogue (DialogueRequest.go_on context info)) = are_octets_if_any context && are_octets info
is_request (Request.dialogue (DialogueRequest.finish ending context info)) =
    are_octets_if_any context && are_octets info
is_request (Request.dialogue (DialogueRequest.u_abort why info)) = are_octets info

-- The numbers of an event are those that its types hold (own).
abbrev pub is_in_range : Event → Bool
is_in_range new_dialogue = true
is_in_range (on_dialogue dialogue r) = is_short dialogue && is_request r
is_in_range (received from bytes) = is_address from && are_octets bytes
is_in_range (moment now) = is_long now

-- As a statement: the numbers of an event are those that its types hold (own).
abbrev pub InRange : Event → Type 0
InRange event = IsTrue (is_in_range event)
