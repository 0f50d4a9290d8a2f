-- Requests that are refused, and what holds then.
use Rattle.std.specs.Prelude.{◌≡◌, ℕ, ◌==◌, ◌&&◌, ◌||◌, Bool, true, false, List, [], ◌∷◌}
use Rattle.tcap_model.specs.Words.Answer.{Answer}
use Rattle.tcap_model.specs.Words.Fault.{Fault, fault_number}
use Rattle.tcap_model.specs.Words.Identifiers.{last_number}
use Rattle.tcap_model.specs.Words.Request.{Request}
use Rattle.tcap_model.specs.Procedures.Refusals.{faults_of, holds}
use Rattle.tcap_model.specs.Table.TableMove.{DialogueEvent, Moved, table_move, situation}
use Rattle.tcap_examples.specs.Dialogues.Played.{Played}

-- The dialogue as it was played, where no number of an invocation is left (own).
abbrev pub with_numbers_spent : Played → Played
with_numbers_spent p = record p { setting = record p.setting { number = last_number } }

-- The dialogue as it was played, where a queue has at most so many octets (own).
abbrev pub with_room : ℕ → Played → Played
with_room limit p = record p { setting = record p.setting { limit = limit } }

-- What a dialogue as it was played does at a request (own).
abbrev pub request_move : Played → Request → Moved
request_move p request = table_move p.setting p.dialogue (DialogueEvent.request request)

-- The request is refused with this fault, and nothing changes (own).
abbrev pub Refused : Played → Request → Fault → Type 0
Refused p request fault =
    request_move p request ≡ record { answer = Answer.refused fault; after = p.dialogue; is_over = false }

-- One fault comes right after another in a row of faults (own).
abbrev pub comes_after : Fault → Fault → List Fault → Bool
comes_after first second [] = false
comes_after first second (f ∷ []) = false
comes_after first second (f ∷ g ∷ fs) =
    ((fault_number f == fault_number first) && (fault_number g == fault_number second))
    || comes_after first second (g ∷ fs)

-- Two faults that are neighbours in a request's row, both of which hold, and what is answered (own).
pub record Judged : Type 0 where
  pub are_neighbours : Bool
  pub first_holds : Bool
  pub second_holds : Bool
  pub answer : Answer

-- How a request is judged for two faults (own).
abbrev pub judged : Played → Request → Fault → Fault → Judged
judged p request first second = record {
  are_neighbours = comes_after first second (faults_of request);
  first_holds = holds (situation p.setting p.dialogue request) request first;
  second_holds = holds (situation p.setting p.dialogue request) request second;
  answer = (request_move p request).answer;
}

-- Two neighbours in the request's row of faults hold together, and the first is answered (own).
abbrev pub FirstOf : Played → Request → Fault → Fault → Type 0
FirstOf p request first second =
    judged p request first second ≡ record {
      are_neighbours = true;
      first_holds = true;
      second_holds = true;
      answer =
          Answer.refused first;
    }
