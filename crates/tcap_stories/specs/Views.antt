-- Lines and outputs as a contract sees them.
use Rattle.std.specs.Prelude.{◌≡◌, ◌++◌, ◌+◌, ◌&&◌, ◌||◌, if◌then◌else◌, ℕ, Bool, true, false, List, [], ◌∷◌, map, drop, Option, Some, None}
use Rattle.std.specs.declared.vec.Vec.{Vec}
use Rattle.ber_core.specs.Place.{Slice}
use Rattle.tcap_play.specs.Pieces.{pieces_left}
use Rattle.tcap_play.specs.Play.{Played, Printed, Stepped, step_by}
use Rattle.tcap_play.specs.EnginesView.{StandAt}
use Rattle.tcap_play.specs.declared.by_line.Engines.{Engines}
use Rattle.tcap_play.specs.declared.opening.Opening.{Opening}
use Rattle.tcap_stories.specs.BadLine.{bad_line}
use Rattle.tcap_stories.specs.Outputs.{is_refusal, numbered, outputs_in}
use Rattle.tcap_stories.specs.Comparing.{Expectation, and_then, compared, held, side_by_side, silent}
use Rattle.tcap_stories.specs.Story.{expectations_from, told_from}
use Rattle.tcap_stories.specs.StoryLine as model
use Rattle.tcap_stories.specs.declared.comparing.Comparing.{Comparing}
use Rattle.tcap_stories.specs.declared.story.Told.{Told}
use Rattle.tcap_stories.specs.declared.story_line.StoryLine.{StoryLine}
use Rattle.tcap_stories.specs.declared.story_line.StoryLine.TheVariants as line

-- What a line is (own).
abbrev pub line_view : StoryLine → model.StoryLine
line_view line.Skipped = model.StoryLine.skipped
line_view (line.Expects text) = model.StoryLine.expects text.now
line_view line.Plays = model.StoryLine.plays

-- Outputs (own).
abbrev pub texts_of : {A : Type 0} → List (Vec ℕ A) → List (List ℕ)
texts_of outputs = map (λ output. output.items) outputs

-- The outputs in the lines that are left, if any are (own).
abbrev pub outputs_left : Option Slice → List (List ℕ)
outputs_left None = []
outputs_left (Some lines) = outputs_in lines.now

-- What was told so far, and whether all has passed so far (own).
abbrev pub so_far : List ℕ → Bool → Printed
so_far text good = record { text = text; good = good }

-- This was told behind what was told before, with this verdict (own).
abbrev pub Adds : Printed → Bool → (before after : List ℕ) → Type 0
Adds told good before after = (after ≡ before ++ told.text) × (good ≡ told.good)

-- The outputs that are not compared yet (own).
abbrev pub left_of : {A : Type 0} → Comparing A → List (List ℕ)
left_of comparing = drop comparing.compared (texts_of comparing.outputs.items)

-- What is told of the outputs of a line that are left where this is expected of them, and something was expected
-- before, or nothing was (own).
abbrev pub still_told : Bool → ℕ → List (List ℕ) → List Expectation → Printed
still_told true number outputs expectations = side_by_side number outputs expectations
still_told false number outputs expectations = compared number outputs expectations

-- What is told of an output of the line of this number that nothing names, where something is expected of the line, or
-- nothing is (own).
abbrev pub left_over : Bool → ℕ → List ℕ → Printed
left_over expected number output = if expected || is_refusal output then held number None (Some output) else silent

-- What is told of the outputs that are left where this is expected of them (own).
abbrev pub going : {A : Type 0} → Comparing A → List Expectation → Printed
going comparing expectations = still_told comparing.expected comparing.line (left_of comparing) expectations

-- From here on that is told which the outputs of the line of this number are to tell, whatever is expected of it (own).
abbrev pub Compares : {A : Type 0} → ℕ → List (List ℕ) → Comparing A → Type 0
Compares number outputs next =
    (expectations : List Expectation) → going next expectations ≡ compared number outputs expectations

-- What a line expects was held against the next output, and told (own).
abbrev pub Expects : {A : Type 0} → Expectation → Bool → (old new : Comparing A) → (before after : List ℕ) → Type 0
Expects expectation good old new before after =
    (told : Printed) × Adds told good before after
    × ((later : List Expectation) → going old (expectation ∷ later) ≡ and_then told (going new later))

-- A line of a play at a play, whose number this is: its outputs are told, and compared with what is expected of them
-- from here on; or it is bad, which is told (own).
abbrev pub PlaysAs : {A : Type 0} → ℕ → List ℕ → Option Stepped → Option (Comparing A) → Engines A
    → (before after : List ℕ) → Type 0
PlaysAs number line None None engines before after = after ≡ before ++ bad_line number line
PlaysAs number line None (Some next) engines before after = ⊥
PlaysAs number line (Some stepped) None engines before after = ⊥
PlaysAs number line (Some stepped) (Some next) engines before after =
    StandAt stepped.after engines × (after ≡ before ++ numbered number (outputs_in stepped.text))
    × Compares number (outputs_in stepped.text) next

-- The same at each play at which the engines stood (own).
abbrev pub PlaysOn : {A : Type 0} → ℕ → List ℕ → Option (Comparing A) → (old new : Engines A)
    → (before after : List ℕ) → Type 0
PlaysOn number line next old new before after =
    (p : Played) → StandAt p old → PlaysAs number line (step_by p line) next new before after

-- What is told from the first line of a play on, at this play (own).
abbrev pub told_at : Opening → Played → Printed
told_at opening p =
    and_then (compared 0 [] (expectations_from (opening.passed + 1) (pieces_left 10 opening.rest)))
    (told_from (opening.passed + 1) p (pieces_left 10 opening.rest))

-- What is told from the line of this number on, behind what was told so far, at a play and beside outputs that are
-- left (own).
abbrev pub told_on : {A : Type 0} → List ℕ → Bool → Comparing A → ℕ → Played → List (List ℕ) → Printed
told_on text good comparing number p lines =
    and_then (so_far text good) (and_then (going comparing (expectations_from number lines)) (told_from number p lines))

-- Behind a line that ends the story it has failed; behind another it goes on at a play, with this verdict on the line
-- (own).
abbrev pub TellsAs : {A : Type 0} → ℕ → List ℕ → Played → (good ends : Bool) → (comparing next : Comparing A)
    → Engines A → (before after : List ℕ) → Type 0
TellsAs number line p good true comparing next engines before after =
    (so : Bool) (lines : List (List ℕ)) → told_on before so comparing number p (line ∷ lines) ≡ so_far after false
TellsAs number line p good false comparing next engines before after =
    (q : Played) × StandAt q engines × ((so : Bool) (lines : List (List ℕ))
    → told_on before so comparing number p (line ∷ lines) ≡ told_on after (so && good) next (number + 1) q lines)

-- What a line tells was added, at each play at which the engines stood (own).
abbrev pub Tells : {A : Type 0} → ℕ → List ℕ → Told → (comparing next : Comparing A) → (old new : Engines A)
    → (before after : List ℕ) → Type 0
Tells number line told comparing next old new before after =
    (p : Played) → StandAt p old → TellsAs number line p told.good told.ends comparing next new before after

-- What the lines of a story tell was added, at each play at which the engines stand, with this verdict (own).
abbrev pub TellsAll : {A : Type 0} → Opening → Bool → Engines A → (before after : List ℕ) → Type 0
TellsAll opening good engines before after =
    (p : Played) → StandAt p engines → and_then (so_far before true) (told_at opening p) ≡ so_far after good
