-- The members of an output, by its kind.
use Rattle.std.specs.Prelude.{ℕ, List, []}
use Rattle.tcap_model.specs.Words.Output.{ComponentIndication, Output}
use Rattle.tcap_living.specs.JsonText.{json_closed, json_component, json_dialogue}

-- The members of an indication of dialogue handling, none of another output (own).
abbrev pub json_dialogue_part : Output → List ℕ
json_dialogue_part (Output.send to bytes) = []
json_dialogue_part (Output.dialogue told) = json_dialogue told
json_dialogue_part (Output.component told) = []
json_dialogue_part (Output.dropped why) = []

-- The members of an indication that closes no invocation, none where it closes one (own).
abbrev pub json_open : ComponentIndication → List ℕ
json_open (ComponentIndication.invoked dialogue id linked code parameter) = json_component (ComponentIndication.invoked dialogue id linked code parameter)
json_open (ComponentIndication.result_more dialogue number id body) = json_component (ComponentIndication.result_more dialogue number id body)
json_open (ComponentIndication.local_reject dialogue id problem) = json_component (ComponentIndication.local_reject dialogue id problem)
json_open (ComponentIndication.remote_reject dialogue id problem by) = json_component (ComponentIndication.remote_reject dialogue id problem by)
json_open (ComponentIndication.closed dialogue number id closing) = []

-- The members of an indication of component handling that closes no invocation, none of another output (own).
abbrev pub json_component_part : Output → List ℕ
json_component_part (Output.send to bytes) = []
json_component_part (Output.dialogue told) = []
json_component_part (Output.component told) = json_open told
json_component_part (Output.dropped why) = []

-- The members of an indication that closes an invocation, none where it closes none (own).
abbrev pub json_closing : ComponentIndication → List ℕ
json_closing (ComponentIndication.invoked dialogue id linked code parameter) = []
json_closing (ComponentIndication.result_more dialogue number id body) = []
json_closing (ComponentIndication.local_reject dialogue id problem) = []
json_closing (ComponentIndication.remote_reject dialogue id problem by) = []
json_closing (ComponentIndication.closed dialogue number id closing) = json_closed dialogue number id closing

-- The members of an output that closes an invocation, none of another (own).
abbrev pub json_closing_part : Output → List ℕ
json_closing_part (Output.send to bytes) = []
json_closing_part (Output.dialogue told) = []
json_closing_part (Output.component told) = json_closing told
json_closing_part (Output.dropped why) = []
