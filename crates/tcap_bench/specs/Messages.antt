-- The messages that the benchmark writes from values.
use Rattle.std.specs.Prelude.{◌≡◌, ℕ, ℤ, ◌-◌, true, List, [], length, take, drop, Option, Some, None, nat_lt, ◌==◌, if◌then◌else◌, ◌⊎◌}
use Rattle.std.specs.Int.{w32, to_be_bytes}
use Rattle.std.specs.List.{flat_map}
use Rattle.tcap_pdu.specs.FrameSpelling.Message.{begin, go_on}
use Rattle.tcap_pdu.specs.FrameWritten.{written_frame}
use Rattle.tcap_pdu.specs.DialogueSpelling.Source.{user}
use Rattle.tcap_pdu.specs.DialogueSpelling.PduValue.{aarq, aare}
use Rattle.tcap_pdu.specs.DialogueWritten.{written_dialogue}
use Rattle.tcap_component.specs.Component.{ComponentParts}
use Rattle.tcap_component.specs.Component.CodeParts.{local}
use Rattle.tcap_component.specs.Component.ComponentParts.{invoke, result_last}
use Rattle.tcap_component.specs.Written.{written_component}
use Rattle.tcap_bench.specs.declared.values.Invocation.{Invocation}

-- The octets of a pool from a start to an end; none where it has none there (own).
abbrev pub part_of : List ℕ → ℕ → ℕ → Option (List ℕ)
part_of pool start end =
    if nat_lt start end
    then (if nat_lt (length pool) end then None else Some (take (end - start) (drop start pool)))
    else None

-- An Invoke of a local operation, with no linked identifier, its parameter taken from a pool
-- (Q.773, Invoke component).
abbrev pub invoke_of : List ℕ → Invocation → ComponentParts
invoke_of pool i = invoke i.id None (local i.operation) (part_of pool i.start i.end)

-- Such an Invoke, written (own).
abbrev pub written_invoke : List ℕ → Invocation → List ℕ
written_invoke pool i = written_component (invoke_of pool i)

-- The contents of a component portion of such Invokes (Q.773, Component portion).
abbrev pub written_invokes : List ℕ → List Invocation → List ℕ
written_invokes pool invocations = flat_map (written_invoke pool) invocations

-- The contents of a dialogue portion with a dialogue request of this application context, in version
-- 1 and with no user information; no dialogue portion where the context has no octets
-- (Q.773, Dialogue portion).
abbrev pub request_of : List ℕ → Option (List ℕ)
request_of context = if length context == 0 then None else Some (written_dialogue (aarq true context []))

-- A Begin with such a dialogue portion and such Invokes (Q.773, Begin message).
abbrev pub begin_of : ℕ → List ℕ → List ℕ → List Invocation → List ℕ
begin_of otid context pool invocations = written_frame (begin (to_be_bytes w32 otid) (request_of context) (written_invokes pool invocations))

-- The contents of a dialogue portion with a dialogue response that accepts this application context
-- (Q.773, Dialogue portion).
abbrev pub response_of : List ℕ → List ℕ
response_of context = written_dialogue (aare true context true (user 0) [])

-- A Continue that accepts a dialogue and has one Return Result Last without a body
-- (Q.773, Continue message).
abbrev pub continue_of : ℕ → ℕ → List ℕ → ℤ → List ℕ
continue_of otid dtid context id = written_frame (go_on (to_be_bytes w32 otid) (to_be_bytes w32 dtid) (Some (response_of context)) (written_component (result_last id None)))

-- What is told of octets that were to stand at the beginning of a room: how many they are, where they
-- stand there, else 0 (own).
abbrev pub IsPut : List ℕ → ℕ → List ℕ → Type 0
IsPut octets told room = (told ≡ 0) ⊎ ((told ≡ length octets) × (take told room ≡ octets))
