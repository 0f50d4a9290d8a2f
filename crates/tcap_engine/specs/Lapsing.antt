-- What lapses at a moment, what a moment leaves, and which timer runs out first.
use Rattle.std.specs.Prelude.{◌≡◌, ℕ, ◌+◌, ◌<◌, true, false, nat_eq, List, [], ◌∷◌, ◌++◌, map, length, option_to_list, Option, Some, None, IfSome}
use Rattle.std.specs.Map.{lookup}
use Rattle.tcap_engine.specs.IdleDialogues.{ends_in, idle_ids, is_among, left_by, entry_at}
use Rattle.tcap_engine.specs.DialogueEntries.{TableEntry, AreFrom, dialogues_of}
use Rattle.tcap_invocation.specs.declared.invocations.lapse.Lapse.{Lapse}
use Rattle.tcap_invocation.specs.Lapses.{told_at}
use Rattle.tcap_invocation.specs.Timers.{next_timer_at}
use Rattle.tcap_dialogue.specs.Timers.{earliest}
use Rattle.tcap_dialogue.specs.declared.dialogue.timers.Timer.{Timer}
use Rattle.tcap_dialogue.specs.declared.dialogue.timers.Timer.TheVariants as timer
use Rattle.tcap_model.specs.Table.Dialogue.{Dialogue, idle_end, touched_at, with_invocations}
use Rattle.tcap_model.specs.Table.DueLapses.{DueLapse, all_told, at_moment}
use Rattle.timed_table.specs.Row.{is_before}

-- The moment at which an invocation of a dialogue lapses or a wait ends first
-- (Q.774, Invocation timer; Q.774, Reject timer).
abbrev pub rows_timer : Dialogue → Option ℕ
rows_timer d = next_timer_at d.invocations.rows

-- The moment at which time next changes a dialogue: that, or the one at which it has been idle too long
-- (Q.774, Invocation timer; Q.774, Reject timer; the last is own).
abbrev pub timer_of : Dialogue → Option ℕ
timer_of d = earliest (rows_timer d) (idle_end d)

-- No timer runs in any dialogue (own).
abbrev pub AreUntimed : List TableEntry → Type 0
AreUntimed [] = Unit {0}
AreUntimed (p ∷ ps) = (timer_of p.1 ≡ None) × AreUntimed ps

-- The timer of each dialogue runs out behind this moment and identifier, or is the one of both (own).
abbrev pub AreBehind : ℕ × ℕ → List TableEntry → Type 0
AreBehind first [] = Unit {0}
AreBehind first (p ∷ ps) = IfSome (timer_of p.1) (λ time. is_before (time, p.0) first ≡ false) × AreBehind first ps

-- A timer and the identifier of its dialogue: none runs out before it, and of those that run out at the same
-- moment none has a lower identifier (own).
pub record IsFirstTimer (ps : List TableEntry) (first : ℕ × ℕ) : Type 0 where
  pub dialogue : Dialogue
  pub stands : lookup (nat_eq first.1) ps ≡ Some dialogue
  pub timer : timer_of dialogue ≡ Some first.0
  pub least : AreBehind first ps

-- A moment tells nothing, ends none and leaves each dialogue as it is (own).
pub record IsQuiet (now : ℕ) (ps : List TableEntry) : Type 0 where
  pub told : all_told now (dialogues_of ps) ≡ []
  pub idle : idle_ids now ps ≡ []
  pub rest : map (entry_at now) ps ≡ ps

-- A timer of the invocations of a dialogue, which a moment has reached, ran out: an invocation lapsed then, the
-- first that is told at the moment, or identifiers are free that have waited. What the moment leaves is the
-- same, and there are fewer invocations (Q.774, Invocation timer; Q.774, Reject timer).
pub record IsRunOut (now time : ℕ) (lapse : Option Lapse) (old new : Dialogue) : Type 0 where
  pub told : told_at now old.invocations.rows ≡ option_to_list lapse ++ told_at now new.invocations.rows
  pub first : IfSome lapse (λ l. l.deadline ≡ time)
  pub rest : at_moment now new ≡ at_moment now old
  pub alike : new ≡ with_invocations old new.invocations
  pub fewer : length new.invocations.rows < length old.invocations.rows

-- A dialogue has been idle too long: its end is postponed, as if its idle timer started anew, until all
-- lapses are told (own).
pub record IsPutOff (now time : ℕ) (old new : Dialogue) : Type 0 where
  pub ends : idle_end old ≡ Some time
  pub is_touched : new ≡ touched_at old now

-- How many invocations stand in all dialogues (own).
abbrev pub row_count : List TableEntry → ℕ
row_count [] = 0
row_count (p ∷ ps) = length p.1.invocations.rows + row_count ps

-- The lapse of a dialogue (own).
abbrev pub due_from : ℕ → Lapse → DueLapse
due_from dialogue lapse = record { dialogue = dialogue; lapse = lapse }

-- The dialogue, where its end is postponed (own).
abbrev pub idle_of : ℕ → Timer → List ℕ
idle_of d timer.Lapse = []
idle_of d timer.Wait = []
idle_of d timer.Idle = d ∷ []

-- How much time may still do at a moment: a step for each invocation, and one for each dialogue that has been
-- idle too long (own).
abbrev pub step_count : ℕ → List TableEntry → ℕ
step_count now ps = row_count ps + length (idle_ids now ps)

-- The first timer of all, which a moment has reached, ran out: of the dialogues that have been idle too long it is
-- the first, if its end is postponed, and then the rest, and what is told of each is the same. What the moment
-- leaves, but for some dialogues that are over and that one among them, is the same; the identifiers rise as before
-- (Q.774, Invocation timer; Q.774, Reject timer).
pub record IsExpired (now d : ℕ) (what : Timer) (old new : List TableEntry) : Type 0 where
  pub idle : idle_ids now old ≡ idle_of d what ++ idle_ids now new
  pub ends : (id : ℕ) → ends_in now new id ≡ ends_in now old id
  pub left : (ids : List ℕ) → (what ≡ timer.Idle → is_among ids d ≡ true) → left_by now ids new ≡ left_by now ids old
  pub from : AreFrom 0 new
  pub fewer : step_count now new < step_count now old
