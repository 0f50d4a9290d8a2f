-- Moves with one rule turned aren't the engine's.
use Rattle.std.specs.Prelude.{ℕ, List, [], ◌∷◌, length, refl}
use Rattle.tcap_examples.proofs.Apart.{apart}
use Rattle.tcap_examples.specs.Computing.{computing}
use Rattle.tcap_examples.specs.Wrong.TurnedMoves.{ByDialogueShows, FreedFirstShows, DrawingEarlyShows}
use Rattle.tcap_examples.specs.Wrong.TurnedMoves.{HearingEarlyShows}
use Rattle.tcap_model.specs.Table.EngineMove.{EngineMoved}
use Rattle.tcap_model.specs.Words.Answer.{Answer}
use Rattle.tcap_model.specs.Words.Output.{ComponentIndication, Output}

-- The number of the first invocation that is told as closed.
abbrev first_of : List Output → ℕ
first_of [] = 0
first_of (Output.component (ComponentIndication.closed dialogue number id closing) ∷ outputs) = number
first_of (Output.component (ComponentIndication.invoked dialogue id linked code parameter) ∷ outputs) = 0
first_of (Output.component (ComponentIndication.result_more dialogue number id body) ∷ outputs) = 0
first_of (Output.component (ComponentIndication.local_reject dialogue id problem) ∷ outputs) = 0
first_of (Output.component (ComponentIndication.remote_reject dialogue id problem by) ∷ outputs) = 0
first_of (Output.dialogue told ∷ outputs) = 0
first_of (Output.send to bytes ∷ outputs) = 0
first_of (Output.dropped why ∷ outputs) = 0

abbrev first_told : EngineMoved → ℕ
first_told m = go m.answer
  where
    go : Answer → ℕ
    go (Answer.outputs outputs) = first_of outputs
    go (Answer.new_dialogue dialogue) = 0
    go (Answer.number number) = 0
    go Answer.done = 0
    go (Answer.given_up number) = 0
    go (Answer.refused fault) = 0

abbrev next_drawn : EngineMoved → ℕ
next_drawn m = m.after.next_dialogue

abbrev how_many_stand : EngineMoved → ℕ
how_many_stand m = length m.after.dialogues

pub by_dialogue_shows : ByDialogueShows
unfolding computing
by_dialogue_shows = record { is_right = refl; is_turned = λ same. apart first_told same refl }

pub freed_first_shows : FreedFirstShows
unfolding computing
freed_first_shows = record { is_right = refl; is_turned = λ same. apart first_told same refl }

pub drawing_early_shows : DrawingEarlyShows
unfolding computing
drawing_early_shows = record { is_right = refl; is_turned = λ same. apart next_drawn same refl }

pub hearing_early_shows : HearingEarlyShows
unfolding computing
hearing_early_shows = record { is_right = refl; is_turned = λ same. apart how_many_stand same refl }

-- What the examples cite.
pub ruleset turned_moves_shown = (by_dialogue_shows, freed_first_shows, drawing_early_shows, hearing_early_shows)
