-- The histories and invocations on which the statements about one engine are instantiated.
use Rattle.std.specs.Prelude.{pos, drop}
use Rattle.tcap_invocation.specs.declared.class.Class.TheVariants.{One}
use Rattle.tcap_model.specs.Statements.Headline.{ToldClosing}
use Rattle.tcap_model.specs.Histories.History.{History}
use Rattle.tcap_model.specs.Histories.Pair.{Past}
use Rattle.tcap_model.specs.Invocations.Invocation.{Invocation}
use Rattle.tcap_model.specs.Words.Output.{Closing}
use Rattle.tcap_examples.specs.Values.HistoryWords.{usual_start}
use Rattle.tcap_examples.specs.Histories.Closing as closing
use Rattle.tcap_examples.specs.Histories.Ends as ends

-- Number 1 is answered; number 2 ends with its dialogue, at a second AARE (own).
abbrev pub repeated_aare_history : History
repeated_aare_history = closing.repeated_aare.history

-- Number 1 lapses at 1000; its result comes after that and is rejected (own).
abbrev pub late_result_history : History
late_result_history = closing.lapse_and_late_result.history

-- That history up to the late result: the Reject of it is queued (own).
abbrev pub late_result : History
late_result = record { start = late_result_history.start; pairs = drop 2 late_result_history.pairs }

-- Number 1 is answered; number 2 isn't, since what stands behind a faulty component isn't told (own).
abbrev pub faulty_second_history : History
faulty_second_history = closing.faulty_second_component.history

-- Number 1 is given up by its user (own).
abbrev pub given_up : History
given_up = ends.closed_by_a_cancel.history

-- The first invocation of these histories: of dialogue 1, with identifier 1, class 1 and a timeout of
-- a second (own).
abbrev pub first : Invocation
first = record { number = 1; dialogue = 1; id = pos 1; class = One; timeout = 1000 }

-- The second invocation of the first history: it differs in its number and identifier (own).
abbrev pub second : Invocation
second = record { number = 2; dialogue = 1; id = pos 2; class = One; timeout = 1000 }

-- The first invocation ends so (own).
abbrev pub first_ending : Closing → ToldClosing
first_ending closing = record { dialogue = 1; id = pos 1; closing = closing }

-- A history that starts as usual (own).
abbrev pub usual_history : Past → History
usual_history past = record { start = usual_start; pairs = past }
