-- Which lines of a story are bad at a play.
use Rattle.std.proofs.Common.{◌≡◌, ◌⊎◌, inl, inr, ◌&&◌, ◌||◌, ℕ, Bool, true, false, not, List, [], ◌∷◌, codes, bytes_eq, Option, Some, None, is_some, option_map, option_and_then, refl, sym, ap, ◌∙◌, if◌then◌else◌, subst}
use Rattle.std.proofs.lemmas.Slice.Eq.{bytes_eq-Decides}
use Rattle.ber_core.specs.Options.{◌>>=◌}
use Rattle.tcap_model.specs.Words.Event.{Event}
use Rattle.tcap_model.specs.Words.Request.{Request}
use Rattle.tcap_play.specs.Play.{Played, Stepped, step}
use Rattle.tcap_play.specs.ScriptLine.{ScriptLine, abort_request_of, asked_on, begin_request_of, called_on, cancel_request_of, error_request_of, invoke_request_of, last_request_of, line_of, line_of_five, line_of_four, line_of_nine, line_of_six, line_of_three, line_of_two, more_request_of, portion_request_on, reject_request_of}
use Rattle.tcap_play.specs.ScriptWords.{MessageName, dialogue_of, engine_of, idle_limit_of, milliseconds_of, name_of, named_address, octets_of}
use Rattle.tcap_lines.specs.declared.fault.LineFault.{LineFault}
use Rattle.tcap_lines.specs.LineFaults.{IsFirstFault}
use Rattle.tcap_lines.specs.Reading.{first_fault}
use Rattle.tcap_lines.proofs.CallerLemmas.{first_told, some_first}
use Rattle.tcap_stories.specs.BadLine.{IsUnfit}
use Rattle.tcap_stories.specs.StoryTable.{story_table}
use Rattle.tcap_stories.proofs.StoryForms.{in_story, story_told}

-- ---- lines that name a message

-- a line asks an engine, if it is one
abbrev Calls : Option ScriptLine → Type 0
Calls None = Unit {0}
Calls (Some (ScriptLine.call engine event)) = Unit {0}
Calls (Some (ScriptLine.deliver name)) = ⊥
Calls (Some (ScriptLine.again name)) = ⊥
Calls (Some (ScriptLine.lose name)) = ⊥
Calls (Some (ScriptLine.advance now)) = ⊥

chosen : (b : Bool) (x y : Option ScriptLine) → Calls x → Calls y → Calls (if b then x else y)
chosen true x y there else_there = there
chosen false x y there else_there = else_there

behind : {A : Type 0} (x : Option A) (f : A → Option ScriptLine) → ((v : A) → Calls (f v)) → Calls (x >>= f)
behind None f each = tt
behind (Some v) f each = each v

called_calls : (side : List ℕ) (event : Event) → Calls (called_on side event)
called_calls side event = behind (engine_of side) _ (λ e. tt)

asked_calls : (side dialogue : List ℕ) (request : Option Request) → Calls (request >>= asked_on side dialogue)
asked_calls side dialogue request = behind request _ (λ r. behind (engine_of side) _ (λ e. behind (dialogue_of dialogue) _ (λ d. tt)))

one_asked : (side dialogue : List ℕ) (request : Request) → Calls (asked_on side dialogue request)
one_asked side dialogue request = behind (engine_of side) _ (λ e. behind (dialogue_of dialogue) _ (λ d. tt))

three_calls : (side name word : List ℕ) → Calls (line_of_three side name word)
three_calls side name word =
    chosen (bytes_eq name (codes "raw")) _ _ (behind (octets_of word) _ (λ o. behind (engine_of side) _ (λ e. tt)))
    (chosen (bytes_eq name (codes "prearranged")) _ None (one_asked side word _) tt)

four_calls : (side name a b : List ℕ) → Calls (line_of_four side name a b)
four_calls side name a b =
    chosen (bytes_eq name (codes "cancel")) _ _ (asked_calls side a (cancel_request_of b))
    (chosen (bytes_eq name (codes "rawfrom")) _ None (behind (named_address a) _ (λ f. behind (octets_of b) _ (λ o. called_calls side _))) tt)

five_calls : (side name a b c : List ℕ) → Calls (line_of_five side name a b c)
five_calls side name a b c =
    chosen (bytes_eq name (codes "abort")) _ _ (asked_calls side a (abort_request_of b c)) (asked_calls side a (portion_request_on side name b c))

six_calls : (side name a b c d : List ℕ) → Calls (line_of_six side name a b c d)
six_calls side name a b c d =
    chosen (bytes_eq name (codes "last")) _ _ (asked_calls side a (last_request_of b c d))
    (chosen (bytes_eq name (codes "more")) _ _ (asked_calls side a (more_request_of b c d))
    (chosen (bytes_eq name (codes "error")) _ _ (asked_calls side a (error_request_of b c d))
    (chosen (bytes_eq name (codes "reject")) _ _ (asked_calls side a (reject_request_of b c d))
    (chosen (bytes_eq name (codes "beginto")) _ None (asked_calls side a (begin_request_of b c d)) tt))))

nine_calls : (side name a : List ℕ) (request : Option Request) → Calls (line_of_nine side name a request)
nine_calls side name a request = chosen (bytes_eq name (codes "invoke")) _ None (asked_calls side a request) tt

-- the words of a line that names a message, `name` before it
record Names (name : List ℕ) (words : List (List ℕ)) (message : MessageName) : Type 0 where
  word : List ℕ
  are : words ≡ name ∷ word ∷ []
  is : name_of word ≡ Some message

-- a line that names a message has its words
abbrev Reads : List (List ℕ) → Option ScriptLine → Type 0
Reads words None = Unit {0}
Reads words (Some (ScriptLine.call engine event)) = Unit {0}
Reads words (Some (ScriptLine.deliver message)) = Names (codes "deliver") words message
Reads words (Some (ScriptLine.again message)) = Names (codes "again") words message
Reads words (Some (ScriptLine.lose message)) = Names (codes "lose") words message
Reads words (Some (ScriptLine.advance now)) = Unit {0}

call_reads : (words : List (List ℕ)) (line : Option ScriptLine) → Calls line → Reads words line
call_reads words None calls = tt
call_reads words (Some (ScriptLine.call engine event)) calls = tt
call_reads words (Some (ScriptLine.deliver message)) calls = absurd calls
call_reads words (Some (ScriptLine.again message)) calls = absurd calls
call_reads words (Some (ScriptLine.lose message)) calls = absurd calls
call_reads words (Some (ScriptLine.advance now)) calls = absurd calls

pub same_octets : (xs ys : List ℕ) → bytes_eq xs ys ≡ true → xs ≡ ys
same_octets xs ys e = (bytes_eq-Decides xs ys).0 e

named : (first name word : List ℕ) (line : MessageName → ScriptLine) → first ≡ name
    → ((message : MessageName) → Names name (first ∷ word ∷ []) message → Reads (first ∷ word ∷ []) (Some (line message)))
    → Reads (first ∷ word ∷ []) (option_map line (name_of word))
named first name word line same reads = go (name_of word) refl where
  go : (m : Option MessageName) → name_of word ≡ m → Reads (first ∷ word ∷ []) (option_map line m)
  go None e = tt
  go (Some message) e = reads message (record { word = word; are = ap (λ n. n ∷ word ∷ []) same; is = e })

advanced : (words : List (List ℕ)) (n : Option ℕ) → Reads words (option_map (λ now. ScriptLine.advance now) n)
advanced words None = tt
advanced words (Some n) = tt

two_reads : (first word : List ℕ) → Reads (first ∷ word ∷ []) (line_of_two first word)
two_reads first word = go (bytes_eq first (codes "deliver")) (bytes_eq first (codes "again")) (bytes_eq first (codes "lose")) (bytes_eq first (codes "advance")) (bytes_eq word (codes "new")) refl refl refl where
  go : (d a l v n : Bool) → bytes_eq first (codes "deliver") ≡ d → bytes_eq first (codes "again") ≡ a → bytes_eq first (codes "lose") ≡ l
      → Reads (first ∷ word ∷ []) (if d then option_map (λ name. ScriptLine.deliver name) (name_of word)
      else if a then option_map (λ name. ScriptLine.again name) (name_of word)
      else if l then option_map (λ name. ScriptLine.lose name) (name_of word)
      else if v then option_map (λ now. ScriptLine.advance now) (milliseconds_of word)
      else if n then called_on first Event.new_dialogue else None)
  go true a l v n h i j = named first (codes "deliver") word (λ name. ScriptLine.deliver name) (same_octets first (codes "deliver") h) (λ m r. r)
  go false true l v n h i j = named first (codes "again") word (λ name. ScriptLine.again name) (same_octets first (codes "again") i) (λ m r. r)
  go false false true v n h i j = named first (codes "lose") word (λ name. ScriptLine.lose name) (same_octets first (codes "lose") j) (λ m r. r)
  go false false false true n h i j = advanced (first ∷ word ∷ []) (milliseconds_of word)
  go false false false false true h i j = call_reads (first ∷ word ∷ []) (called_on first Event.new_dialogue) (called_calls first Event.new_dialogue)
  go false false false false false h i j = tt

reads : (words : List (List ℕ)) → Reads words (line_of words)
reads [] = tt
reads (a ∷ []) = tt
reads (a ∷ b ∷ []) = two_reads a b
reads (a ∷ b ∷ c ∷ []) = call_reads _ (line_of_three a b c) (three_calls a b c)
reads (a ∷ b ∷ c ∷ d ∷ []) = call_reads _ (line_of_four a b c d) (four_calls a b c d)
reads (a ∷ b ∷ c ∷ d ∷ e ∷ []) = call_reads _ (line_of_five a b c d e) (five_calls a b c d e)
reads (a ∷ b ∷ c ∷ d ∷ e ∷ f ∷ []) = call_reads _ (line_of_six a b c d e f) (six_calls a b c d e f)
reads (a ∷ b ∷ c ∷ d ∷ e ∷ f ∷ g ∷ []) = tt
reads (a ∷ b ∷ c ∷ d ∷ e ∷ f ∷ g ∷ h ∷ []) = tt
reads (a ∷ b ∷ c ∷ d ∷ e ∷ f ∷ g ∷ h ∷ i ∷ []) = call_reads _ (line_of_nine a b c (invoke_request_of d e f g h i)) (nine_calls a b c (invoke_request_of d e f g h i))
reads (a ∷ b ∷ c ∷ d ∷ e ∷ f ∷ g ∷ h ∷ i ∷ j ∷ words) = tt

-- ---- lines that have a form, and are bad

map_none : {A B : Type 0} (f : A → B) (x : Option A) → option_map f x ≡ None → x ≡ None
map_none f None e = refl
map_none f (Some v) e = absurd cc

-- a line that was read and makes no step names a message that can't be so treated
unstepped : (p : Played) (words : List (List ℕ)) (line : ScriptLine) → Reads words (Some line) → step p line ≡ None → IsUnfit p words
unstepped p words (ScriptLine.call engine event) names none = absurd cc
unstepped p words (ScriptLine.deliver message) names none =
    subst (IsUnfit p) (sym names.are) (IsUnfit.undelivered p names.word message names.is (map_none _ _ none))
unstepped p words (ScriptLine.again message) names none =
    subst (IsUnfit p) (sym names.are) (IsUnfit.unrepeated p names.word message names.is (map_none _ _ none))
unstepped p words (ScriptLine.lose message) names none =
    subst (IsUnfit p) (sym names.are) (IsUnfit.unlost p names.word message names.is (map_none _ _ none))
unstepped p words (ScriptLine.advance now) names none = absurd cc

limited : (p : Played) (word : List ℕ) (limit : Option ℕ) → idle_limit_of word ≡ limit → is_some limit ≡ true → IsUnfit p (codes "idle" ∷ word ∷ [])
limited p word None e is = absurd cc
limited p word (Some most) e is = IsUnfit.late p word most e

both : (a b : Bool) → (a && b) ≡ true → (a ≡ true) × (b ≡ true)
both true b is = (refl, is)
both false b is = absurd cc

-- a line that stands in a story alone
storied : (p : Played) (words : List (List ℕ)) → in_story words ≡ true → IsUnfit p words
storied p [] is = absurd cc
storied p (first ∷ []) is = subst (λ f. IsUnfit p (f ∷ [])) (sym (same_octets first (codes "expect") is)) (IsUnfit.unsaid p)
storied p (first ∷ word ∷ []) is =
    let b = both (bytes_eq first (codes "idle")) (is_some (idle_limit_of word)) is in
    subst (λ f. IsUnfit p (f ∷ word ∷ [])) (sym (same_octets first (codes "idle") b.0)) (limited p word (idle_limit_of word) refl b.1)
storied p (first ∷ second ∷ third ∷ words) is = absurd cc

-- what step is made for words
abbrev pub stepped : Played → List (List ℕ) → Option Stepped
stepped p words = option_and_then (step p) (line_of words)

-- a line that makes no step, and of which no word is wrong
unwrong : (p : Played) (words : List (List ℕ)) → (is_some (line_of words) || in_story words) ≡ true → stepped p words ≡ None → IsUnfit p words
unwrong p words is none = go (line_of words) (reads words) is none where
  go : (line : Option ScriptLine) → Reads words line → (is_some line || in_story words) ≡ true → option_and_then (step p) line ≡ None → IsUnfit p words
  go None read is none = storied p words is
  go (Some line) read is none = unstepped p words line read none

some_fault : (found : LineFault) → Option LineFault
some_fault found = Some found

not_not : (b : Bool) → false ≡ not b → b ≡ true
not_not true e = refl
not_not false e = absurd cc

-- a line that makes no step has a word that is wrong, or is one of these
pub no_other : (p : Played) (words : List (List ℕ)) → stepped p words ≡ None → ((found : LineFault) × IsFirstFault story_table words found) ⊎ IsUnfit p words
no_other p words none = go (first_fault story_table words) refl where
  go : (found : Option LineFault) → first_fault story_table words ≡ found → ((found : LineFault) × IsFirstFault story_table words found) ⊎ IsUnfit p words
  go (Some found) e = inl (found, some_first story_table words found e)
  go None e = inr (unwrong p words (not_not _ (sym (ap is_some e) ∙ story_told words)) none)

not_read : (line : Option ScriptLine) (b : Bool) → true ≡ not (is_some line || b) → line ≡ None
not_read None b e = refl
not_read (Some line) b e = absurd cc

-- a line with a word that is wrong makes no step
pub wrong : (p : Played) (words : List (List ℕ)) (found : LineFault) → IsFirstFault story_table words found → stepped p words ≡ None
wrong p words found is =
    let none : line_of words ≡ None = not_read (line_of words) (in_story words) (sym (ap is_some (first_told story_table words found is)) ∙ story_told words) in
    rw none refl

is_none : (found : Option LineFault) → is_some found ≡ false → found ≡ None
is_none None e = refl
is_none (Some found) e = absurd cc

formed : (words : List (List ℕ)) → (is_some (line_of words) || in_story words) ≡ true → first_fault story_table words ≡ None
formed words is = is_none (first_fault story_table words) (story_told words ∙ ap not is)

late_line : (word : List ℕ) → line_of (codes "idle" ∷ word ∷ []) ≡ None
late_line word = go (bytes_eq word (codes "new")) where
  go : (b : Bool) → (if b then called_on (codes "idle") Event.new_dialogue else None) ≡ None
  go true = refl
  go false = refl

or_true : (b : Bool) → (b || true) ≡ true
or_true true = refl
or_true false = refl

-- these lines have a form, and make no step
pub unfit : (p : Played) (words : List (List ℕ)) → IsUnfit p words → (stepped p words ≡ None) × (first_fault story_table words ≡ None)
unfit p words (IsUnfit.undelivered q word name is none) = (rw (is, none) refl, formed (codes "deliver" ∷ word ∷ []) (rw is refl))
unfit p words (IsUnfit.unrepeated q word name is none) = (rw (is, none) refl, formed (codes "again" ∷ word ∷ []) (rw is refl))
unfit p words (IsUnfit.unlost q word name is none) = (rw (is, none) refl, formed (codes "lose" ∷ word ∷ []) (rw is refl))
unfit p words (IsUnfit.late q word limit is) = (rw (late_line word) refl, formed (codes "idle" ∷ word ∷ []) (rw is (or_true _)))
unfit p words (IsUnfit.unsaid q) = (refl, formed (codes "expect" ∷ []) refl)
