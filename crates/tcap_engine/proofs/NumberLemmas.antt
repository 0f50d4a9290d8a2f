-- Whether a number is left doesn't depend on what was told.
use Rattle.std.proofs.Common.{ℕ, List}
use Rattle.tcap_dialogue.specs.declared.dialogue.requests.Accepted.{Accepted}
use Rattle.tcap_dialogue.specs.declared.dialogue.requests.Accepted.TheVariants as asked
use Rattle.tcap_engine.specs.RequestInTable.{IsLeft, accepted_answer}
use Rattle.tcap_model.specs.Words.Output.{Output}

pub any-left : (a : Accepted) (next : ℕ) (told : List Output) → IsLeft (accepted_answer told a) next → (other : List Output) → IsLeft (accepted_answer other a) next
any-left (asked.Number number) next told h other = h
any-left asked.Done next told h other = tt
any-left (asked.GivenUp number) next told h other = tt
any-left (asked.Step over) next told h other = tt
