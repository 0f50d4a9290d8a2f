-- What is told from a line on.
use Rattle.std.proofs.Common.{◌≡◌, ◌+◌, ◌&&◌, ℕ, Bool, true, false, List, [], ◌∷◌, ◌++◌, Option, Some, None, refl, sym, ap, ◌∙◌, subst, Result, Ok, Err, IfOk}
use Rattle.tcap_play.specs.EnginesView.{StandAt}
use Rattle.tcap_play.specs.PlayViews.{Does}
use Rattle.tcap_play.specs.declared.by_line.Engines.{Engines}
use Rattle.tcap_play.specs.Opening as model
use Rattle.tcap_play.specs.OpeningView.{opening_view}
use Rattle.tcap_play.specs.Pieces.{pieces_left}
use Rattle.tcap_play.specs.Play.{Played, Printed, Stepped, behind, not_begun, step_by}
use Rattle.tcap_play.specs.declared.opening.Opening.{Opening}
use Rattle.tcap_stories.specs.BadLine.{bad_line}
use Rattle.tcap_stories.specs.Comparing.{Expectation, and_then, compared}
use Rattle.tcap_stories.specs.Outputs.{numbered, outputs_in}
use Rattle.tcap_stories.specs.Story.{expectations_from, expectations_with, plays_any, told_from, told_if_played, told_line, told_of, told_step, told_whole}
use Rattle.tcap_stories.specs.StoryLine.{StoryLine, kind_of, wanted_by}
use Rattle.tcap_stories.specs.Views.{Adds, Expects, PlaysAs, Tells, TellsAs, going, so_far, told_at, told_on}
use Rattle.tcap_stories.specs.declared.comparing.Comparing.{Comparing}
use Rattle.tcap_stories.specs.declared.story.Told.{Told}
use Rattle.tcap_stories.proofs.PrintedLemmas.{added, and_assoc, and_silent, good_false, good_true}

-- the expectations behind a line
expectations-line : (number : ℕ) (line : List ℕ) (lines : List (List ℕ)) → expectations_from number (line ∷ lines) ≡ expectations_with number (kind_of line) (expectations_from (number + 1) lines)
unfolding expectations_from
expectations-line number line lines = refl

told-line : (number : ℕ) (p : Played) (line : List ℕ) (lines : List (List ℕ))
    → told_from number p (line ∷ lines) ≡ told_line (kind_of line) (told_from (number + 1) p lines) (told_step number line (expectations_from (number + 1) lines) (λ q. told_from (number + 1) q lines) (step_by p line))
unfolding told_from
told-line number p line lines = refl

module _ {A : Type 0} where
  -- a line that is skipped is passed over
  pub skipped : (text : List ℕ) (good : Bool) (c : Comparing A) (number : ℕ) (p : Played) (line : List ℕ) (lines : List (List ℕ)) → kind_of line ≡ StoryLine.skipped
      → told_on text good c number p (line ∷ lines) ≡ told_on text good c (number + 1) p lines
  skipped text good c number p line lines is =
      ap (λ es. and_then (so_far text good) (and_then (going c es) (told_from number p (line ∷ lines)))) (expectations-line number line lines ∙ ap (λ k. expectations_with number k (expectations_from (number + 1) lines)) is)
      ∙ ap (λ t. and_then (so_far text good) (and_then (going c (expectations_from (number + 1) lines)) t))
      (told-line number p line lines ∙ ap (λ k. told_line k (told_from (number + 1) p lines) (told_step number line (expectations_from (number + 1) lines) (λ q. told_from (number + 1) q lines) (step_by p line))) is)

  -- a line that says what is expected was held against the next output
  pub expected : (text after : List ℕ) (good now : Bool) (c next : Comparing A) (number : ℕ) (p : Played) (line : List ℕ) (lines : List (List ℕ)) (said : List ℕ) → kind_of line ≡ StoryLine.expects said
      → Expects (record { line = number; wanted = wanted_by said }) now c next text after
      → told_on text good c number p (line ∷ lines) ≡ told_on after (good && now) next (number + 1) p lines
  expected text after good now c next number p line lines said is held =
      let later = expectations_from (number + 1) lines in
      let rest = told_from (number + 1) p lines in
      let here : expectations_from number (line ∷ lines) ≡ record { line = number; wanted = wanted_by said } ∷ later = expectations-line number line lines ∙ ap (λ k. expectations_with number k later) is in
      let on : told_from number p (line ∷ lines) ≡ rest = told-line number p line lines ∙ ap (λ k. told_line k rest (told_step number line later (λ q. told_from (number + 1) q lines) (step_by p line))) is in
      ap (λ es. and_then (so_far text good) (and_then (going c es) (told_from number p (line ∷ lines)))) here
      ∙ (ap (λ t. and_then (so_far text good) (and_then (going c (record { line = number; wanted = wanted_by said } ∷ later)) t)) on
      ∙ (ap (λ t. and_then (so_far text good) (and_then t rest)) (held.2 later)
      ∙ (ap (λ t. and_then (so_far text good) t) (and_assoc held.0 (going next later) rest)
      ∙ (sym (and_assoc (so_far text good) held.0 (and_then (going next later) rest))
      ∙ ap (λ t. and_then t (and_then (going next later) rest)) (added held.0 text after good now held.1)))))

  -- before a line of a play no more is expected of the line before it
  pub over : (text after : List ℕ) (good now : Bool) (c : Comparing A) (number : ℕ) (p : Played) (line : List ℕ) (lines : List (List ℕ)) → kind_of line ≡ StoryLine.plays
      → Adds (going c []) now text after
      → told_on text good c number p (line ∷ lines)
      ≡ and_then (so_far after (good && now)) (told_step number line (expectations_from (number + 1) lines) (λ q. told_from (number + 1) q lines) (step_by p line))
  over text after good now c number p line lines is ends =
      let later = expectations_from (number + 1) lines in
      let step = told_step number line later (λ q. told_from (number + 1) q lines) (step_by p line) in
      let here : expectations_from number (line ∷ lines) ≡ [] = expectations-line number line lines ∙ ap (λ k. expectations_with number k later) is in
      let on : told_from number p (line ∷ lines) ≡ step = told-line number p line lines ∙ ap (λ k. told_line k (told_from (number + 1) p lines) step) is in
      ap (λ es. and_then (so_far text good) (and_then (going c es) (told_from number p (line ∷ lines)))) here
      ∙ (ap (λ t. and_then (so_far text good) (and_then (going c []) t)) on
      ∙ (sym (and_assoc (so_far text good) (going c []) step)
      ∙ ap (λ t. and_then t step) (added (going c []) text after good now ends)))

  -- a line of a play was played
  pub played : (text after : List ℕ) (good : Bool) (next : Comparing A) (number : ℕ) (line : List ℕ) (lines : List (List ℕ)) (stepped : Stepped)
      → after ≡ text ++ numbered number (outputs_in stepped.text)
      → ((es : List Expectation) → going next es ≡ compared number (outputs_in stepped.text) es)
      → and_then (so_far text good) (told_step number line (expectations_from (number + 1) lines) (λ q. told_from (number + 1) q lines) (Some stepped))
      ≡ told_on after good next (number + 1) stepped.after lines
  played text after good next number line lines stepped prints goes =
      let later = expectations_from (number + 1) lines in
      let rest = told_from (number + 1) stepped.after lines in
      let outputs = outputs_in stepped.text in
      let told : told_of number outputs later ≡ and_then (so_far (numbered number outputs) true) (going next later) = ap (behind (numbered number outputs)) (sym (goes later)) in
      ap (λ t. and_then (so_far text good) (and_then t rest)) told
      ∙ (ap (λ t. and_then (so_far text good) t) (and_assoc (so_far (numbered number outputs) true) (going next later) rest)
      ∙ (sym (and_assoc (so_far text good) (so_far (numbered number outputs) true) (and_then (going next later) rest))
      ∙ ap (λ t. and_then t (and_then (going next later) rest)) (ap (λ t. so_far t (good && true)) (sym prints) ∙ ap (λ g. so_far after g) (good_true good))))

  -- behind the last line nothing is told but the outputs that are left
  pub ended : (text after : List ℕ) (good now : Bool) (c : Comparing A) (number : ℕ) (p : Played) → Adds (going c []) now text after → told_on text good c number p [] ≡ so_far after (good && now)
  unfolding expectations_from told_from
  ended text after good now c number p ends =
      ap (λ t. and_then (so_far text good) t) (and_silent (going c [])) ∙ added (going c []) text after good now ends

-- a bad line ends the story
pub bad : (text after : List ℕ) (good : Bool) (number : ℕ) (line : List ℕ) (es : List Expectation) (later : Played → Printed) → after ≡ text ++ bad_line number line
    → and_then (so_far text good) (told_step number line es later None) ≡ so_far after false
bad text after good number line es later is = ap (λ t. so_far t (good && false)) (sym is) ∙ ap (λ g. so_far after g) (good_false good)

-- ---- what a line tells

module _ {A : Type 0} where
  -- a line of a play that has a step goes on behind it
  pub goes_on : (number : ℕ) (line : List ℕ) (p : Played) (good : Bool) (c next : Comparing A) (engines : Engines A) (before mid after : List ℕ) → kind_of line ≡ StoryLine.plays
      → Adds (going c []) good before mid → PlaysAs number line (step_by p line) (Some next) engines mid after
      → TellsAs number line p good false c next engines before after
  goes_on number line p good c next engines before mid after is ends plays = go (step_by p line) refl plays where
    go : (step : Option Stepped) → step_by p line ≡ step → PlaysAs number line step (Some next) engines mid after → TellsAs number line p good false c next engines before after
    go None e plays = absurd plays
    go (Some stepped) e plays = (
      stepped.after,
      plays.0,
      λ so lines.
          over before mid so good c number p line lines is ends
          ∙ (ap (λ step. and_then (so_far mid (so && good)) (told_step number line (expectations_from (number + 1) lines) (λ q. told_from (number + 1) q lines) step)) e
          ∙ played mid after (so && good) next number line lines stepped plays.1 plays.2),
    )

  -- a bad one ends the story
  pub stops : (number : ℕ) (line : List ℕ) (p : Played) (good : Bool) (c next : Comparing A) (engines : Engines A) (before mid after : List ℕ) → kind_of line ≡ StoryLine.plays
      → Adds (going c []) good before mid → PlaysAs {A = A} number line (step_by p line) None engines mid after
      → TellsAs number line p false true c next engines before after
  stops number line p good c next engines before mid after is ends plays = go (step_by p line) refl plays where
    go : (step : Option Stepped) → step_by p line ≡ step → PlaysAs {A = A} number line step None engines mid after → TellsAs number line p false true c next engines before after
    go (Some stepped) e plays = absurd plays
    go None e plays = λ so lines.
        over before mid so good c number p line lines is ends
        ∙ (ap (λ step. and_then (so_far mid (so && good)) (told_step number line (expectations_from (number + 1) lines) (λ q. told_from (number + 1) q lines) step)) e
        ∙ bad mid after (so && good) number line (expectations_from (number + 1) lines) (λ q. told_from (number + 1) q lines) plays)

  -- one that is skipped tells nothing
  pub passes : (number : ℕ) (line : List ℕ) (p : Played) (c : Comparing A) (engines : Engines A) (text : List ℕ) → kind_of line ≡ StoryLine.skipped → StandAt p engines
      → TellsAs number line p true false c c engines text text
  passes number line p c engines text is at = (
    p,
    at,
    λ so lines. skipped text so c number p line lines is ∙ ap (λ g. told_on text g c (number + 1) p lines) (sym (good_true so)),
  )

  -- one that says what is expected
  pub expects : (number : ℕ) (line : List ℕ) (p : Played) (good : Bool) (c next : Comparing A) (engines : Engines A) (before after said : List ℕ) → kind_of line ≡ StoryLine.expects said → StandAt p engines
      → Expects (record { line = number; wanted = wanted_by said }) good c next before after
      → TellsAs number line p good false c next engines before after
  expects number line p good c next engines before after said is at held = (
    p,
    at,
    λ so lines. expected before after so good c next number p line lines said is held,
  )

  -- what a step prints is told
  pub did : (number : ℕ) (line : List ℕ) (step : Option Stepped) (next : Comparing A) (engines : Engines A) (start printed before after : List ℕ)
      → start ≡ [] → Does step true engines.a engines.b start printed → after ≡ before ++ numbered number (outputs_in printed)
      → ((es : List Expectation) → going next es ≡ compared number (outputs_in printed) es)
      → PlaysAs number line step (Some next) engines before after
  did number line None next engines start printed before after none does prints goes = absurd cc
  did number line (Some stepped) next engines start printed before after none does prints goes =
      let same : outputs_in printed ≡ outputs_in stepped.text = ap outputs_in (does.1.is_text ∙ ap (λ s. s ++ stepped.text) none) in (
        does.1.is_at,
        prints ∙ ap (λ o. before ++ numbered number o) same,
        λ es. goes es ∙ ap (λ o. compared number o es) same,
      )

  pub did_not : (number : ℕ) (line : List ℕ) (step : Option Stepped) (engines : Engines A) (start printed before after : List ℕ)
      → Does step false engines.a engines.b start printed → after ≡ before ++ bad_line number line
      → PlaysAs {A = A} number line step None engines before after
  did_not number line None engines start printed before after does tells = tells
  did_not number line (Some stepped) engines start printed before after does tells = absurd cc

  -- what one told that says what is expected
  pub expects_ok : {E : Type 0} (r : Result Told E) (number : ℕ) (line : List ℕ) (c next : Comparing A) (engines : Engines A) (before after said : List ℕ) → kind_of line ≡ StoryLine.expects said
      → IfOk r (λ told. Expects (record { line = number; wanted = wanted_by said }) told.good c next before after) → IfOk r (λ told. told.ends ≡ false)
      → IfOk r (λ told. Tells number line told c next engines engines before after)
  expects_ok (Err e) number line c next engines before after said is held ends = tt
  expects_ok (Ok told) number line c next engines before after said is held ends =
      λ p at. subst (λ b. TellsAs number line p told.good b c next engines before after) (sym ends) (expects number line p told.good c next engines before after said is at held)

  -- the story goes on behind a line
  pub next_told : (start : Printed) (text after : List ℕ) (good now : Bool) (c next : Comparing A) (engines : Engines A) (number : ℕ) (q : Played) (line : List ℕ) (ahead lines : List (List ℕ))
      → start ≡ told_on text good c number q ahead → ahead ≡ line ∷ lines → TellsAs number line q now false c next engines text after
      → (r : Played) × StandAt r engines × (start ≡ told_on after (good && now) next (number + 1) r lines)
  next_told start text after good now c next engines number q line ahead lines is cuts tells =
      (tells.0, tells.1, is ∙ (ap (λ ls. told_on text good c number q ls) cuts ∙ tells.2 good lines))

  -- it ends with a line
  pub last_told : (start : Printed) (text after : List ℕ) (good now : Bool) (c next : Comparing A) (engines : Engines A) (number : ℕ) (q : Played) (line : List ℕ) (ahead lines : List (List ℕ))
      → start ≡ told_on text good c number q ahead → ahead ≡ line ∷ lines → TellsAs number line q now true c next engines text after
      → start ≡ so_far after false
  last_told start text after good now c next engines number q line ahead lines is cuts tells =
      is ∙ (ap (λ ls. told_on text good c number q ls) cuts ∙ tells good lines)

  -- behind the last line what is left is told
  pub all_told : (start : Printed) (text after : List ℕ) (good now : Bool) (c : Comparing A) (number : ℕ) (q : Played) (ahead : List (List ℕ))
      → start ≡ told_on text good c number q ahead → ahead ≡ [] → Adds (going c []) now text after → start ≡ so_far after (good && now)
  all_told start text after good now c number q ahead is none ends =
      is ∙ (ap (λ ls. told_on text good c number q ls) none ∙ ended text after good now c number q ends)

-- what is told of the lines, and behind it whether one is played, is all
pub whole_told : (opening : Opening) (o : model.Opening) (start middle text : List ℕ) (good played : Bool) → opening_view opening ≡ o → start ≡ []
    → and_then (so_far start true) (told_at opening (not_begun opening.idle_ms)) ≡ so_far middle good
    → Adds (told_if_played (plays_any (pieces_left 10 opening.rest))) played middle text
    → told_whole o ≡ so_far text (good && played)
whole_told opening o start middle text good played is none tells adds =
    let told = told_at opening (not_begun opening.idle_ms) in
    let last = told_if_played (plays_any (pieces_left 10 opening.rest)) in
    ap told_whole (sym is)
    ∙ (ap (λ s. and_then (and_then (so_far s true) told) last) (sym none)
    ∙ (ap (λ t. and_then t last) tells ∙ added last middle text good played adds))
