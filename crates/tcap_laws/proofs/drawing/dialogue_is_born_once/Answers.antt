use Rattle.tcap_laws.proofs.Births.DrawnDialogues.{dialogue-next, dialogues-drawn, dialogues-rise, dialogues-below, was_born-listed, listed-was_born, was_born-lives, beyond-unborn}
use Rattle.tcap_laws.proofs.Births.StartCounters.{start_dialogue-within}
use Rattle.tcap_laws.proofs.drawing.dialogue_is_born_once.Goals as goal

pub returns-clause-next : goal.returns-clause-next
returns-clause-next c = dialogue-next

pub returns-clause-drawn : goal.returns-clause-drawn
returns-clause-drawn c = λ h legal. dialogues-drawn h.start h.pairs legal.1

pub returns-clause-rising : goal.returns-clause-rising
returns-clause-rising c = λ h legal. dialogues-rise h.start h.pairs legal.1

pub returns-clause-within : goal.returns-clause-within
returns-clause-within c = λ h legal. dialogues-below h.start h.pairs legal.1 (start_dialogue-within h.start legal.0)

pub returns-clause-listed : goal.returns-clause-listed
returns-clause-listed c = λ dialogue past. (was_born-listed dialogue past, listed-was_born dialogue past)

pub returns-clause-lives : goal.returns-clause-lives
returns-clause-lives c = λ h legal. was_born-lives h.start h.pairs legal.1

pub returns-clause-beyond : goal.returns-clause-beyond
returns-clause-beyond c = λ h legal. beyond-unborn h.start h.pairs legal.1
