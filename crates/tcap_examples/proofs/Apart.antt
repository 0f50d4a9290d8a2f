-- Answers and closing indications that aren't the same.
use Rattle.std.proofs.Common.{◌≡◌, ℕ, ◌+◌, ◌*◌, false, List, [], ◌∷◌, length, ap, arith}
use Rattle.std.specs.Prelude.{◌==◌, sum, sum_by}
use Rattle.tcap_model.specs.Words.Answer.{Answer}
use Rattle.tcap_model.specs.Invocations.Closings.{Told}
use Rattle.tcap_model.specs.Words.Fault.{fault_number}
use Rattle.tcap_model.specs.Words.Output.{Output, Closing, ComponentIndication, DialogueIndication}

-- Two numbers that the test tells apart aren't equal.
differ : (m n : ℕ) → m ≡ n → (m == n) ≡ false → ⊥
differ m n e unequal = grind arith

-- Two values to which different numbers belong aren't equal.
pub apart : {A : Type 0} {x y : A} (f : A → ℕ) → x ≡ y → (f x == f y) ≡ false → ⊥
apart {A = A} {x = x} {y = y} f e unequal = differ (f x) (f y) (ap f e) unequal

-- A number for each way to close an invocation.
abbrev pub closing_number : Closing → ℕ
closing_number (Closing.result_last body) = 20
closing_number (Closing.error_back code parameter) = 21
closing_number (Closing.rejected problem by) = 22
closing_number Closing.lapsed = 23
closing_number Closing.ended = 24
closing_number Closing.given_up = 25

-- A number for each output.
abbrev pub output_number : Output → ℕ
output_number (Output.send to bytes) = 100 + sum to + 1000 * sum bytes
output_number (Output.dialogue (DialogueIndication.uni context info)) = 1
output_number (Output.dialogue (DialogueIndication.begin dialogue context info)) = 2
output_number (Output.dialogue (DialogueIndication.go_on dialogue context info)) = 3
output_number (Output.dialogue (DialogueIndication.end dialogue context info)) = 4
output_number (Output.dialogue (DialogueIndication.u_abort dialogue pdu)) = 5
output_number (Output.dialogue (DialogueIndication.p_abort dialogue why)) = 6
output_number (Output.component (ComponentIndication.invoked dialogue id linked code parameter)) = 7
output_number (Output.component (ComponentIndication.result_more dialogue number id body)) = 8
output_number (Output.component (ComponentIndication.local_reject dialogue id problem)) = 9
output_number (Output.component (ComponentIndication.remote_reject dialogue id problem by)) = 10
output_number (Output.component (ComponentIndication.closed dialogue number id closing)) = closing_number closing
output_number (Output.dropped why) = 11

-- A number for an answer: where two have different ones, they aren't the same.
abbrev pub answer_number : Answer → ℕ
answer_number (Answer.new_dialogue dialogue) = 10000 + dialogue
answer_number (Answer.number n) = 20000 + n
answer_number Answer.done = 30000
answer_number (Answer.given_up n) = 40000 + n
answer_number (Answer.outputs outputs) = sum_by output_number outputs
answer_number (Answer.refused fault) = 50000 + fault_number fault

-- A number for some closing indications: where two have different ones, they aren't the same.
abbrev pub told_number : List Told → ℕ
told_number told = sum_by (λ (t : Told). closing_number t.closing + 100 * length t.place) told

-- A number for the first output of an answer, and for the dialogue where this is TC-P-ABORT: where two have
-- different ones, the answers aren't the same, nor in the same order.
abbrev pub first_number : Answer → ℕ
first_number (Answer.outputs (Output.dialogue (DialogueIndication.p_abort dialogue why) ∷ outputs)) = 1000 + dialogue
first_number (Answer.outputs (output ∷ outputs)) = output_number output
first_number (Answer.outputs []) = 0
first_number (Answer.new_dialogue dialogue) = 0
first_number (Answer.number n) = 0
first_number Answer.done = 0
first_number (Answer.given_up n) = 0
first_number (Answer.refused fault) = 0
