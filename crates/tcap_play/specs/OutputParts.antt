-- The words of an output, by its kind.
use Rattle.std.specs.Prelude.{ℕ, List, []}
use Rattle.tcap_model.specs.Words.Output.{ComponentIndication, Output}
use Rattle.tcap_play.specs.OutputText.{dialogue_words, component_words, closed_words}

-- The words of an indication of dialogue handling, none of another output (own).
abbrev pub dialogue_part : Output → List ℕ
dialogue_part (Output.send to bytes) = []
dialogue_part (Output.dialogue told) = dialogue_words told
dialogue_part (Output.component told) = []
dialogue_part (Output.dropped why) = []

-- The words of an indication that closes no invocation, none where it closes one (own).
abbrev pub open_words : ComponentIndication → List ℕ
open_words (ComponentIndication.invoked dialogue id linked code parameter) = component_words (ComponentIndication.invoked dialogue id linked code parameter)
open_words (ComponentIndication.result_more dialogue number id body) = component_words (ComponentIndication.result_more dialogue number id body)
open_words (ComponentIndication.local_reject dialogue id problem) = component_words (ComponentIndication.local_reject dialogue id problem)
open_words (ComponentIndication.remote_reject dialogue id problem by) = component_words (ComponentIndication.remote_reject dialogue id problem by)
open_words (ComponentIndication.closed dialogue number id closing) = []

-- The words of an indication of component handling that closes no invocation, none of another output
-- (own).
abbrev pub component_part : Output → List ℕ
component_part (Output.send to bytes) = []
component_part (Output.dialogue told) = []
component_part (Output.component told) = open_words told
component_part (Output.dropped why) = []

-- The words of an indication that closes an invocation, none where it closes none (own).
abbrev pub closing_words : ComponentIndication → List ℕ
closing_words (ComponentIndication.invoked dialogue id linked code parameter) = []
closing_words (ComponentIndication.result_more dialogue number id body) = []
closing_words (ComponentIndication.local_reject dialogue id problem) = []
closing_words (ComponentIndication.remote_reject dialogue id problem by) = []
closing_words (ComponentIndication.closed dialogue number id closing) = closed_words dialogue number id closing

-- The words of an output that closes an invocation, none of another (own).
abbrev pub closing_part : Output → List ℕ
closing_part (Output.send to bytes) = []
closing_part (Output.dialogue told) = []
closing_part (Output.component told) = closing_words told
closing_part (Output.dropped why) = []
