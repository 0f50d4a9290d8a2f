-- What a line of a script asks for has numbers that its types hold.
use Rattle.std.proofs.Common.{◌≡◌, ℕ, ℤ, true, List, [], ◌∷◌, ◌&&◌, nat_lt, Option, Some, None, refl}
use Rattle.std.specs.Prelude.{codes, bytes_eq}
use Rattle.std.specs.List.{list_all}
use Rattle.std.specs.Option.{option_map}
use Rattle.ber_core.specs.Options.{◌>>=◌}
use Rattle.tcap_component.specs.Component.{CodeParts, BodyParts}
use Rattle.tcap_component.specs.Problem.{ProblemParts}
use Rattle.tcap_invocation.specs.declared.class.Class.{Class}
use Rattle.tcap_model.specs.Words.Address.{Address}
use Rattle.tcap_model.specs.Words.Event.{Event}
use Rattle.tcap_model.specs.Words.InRange.{InRange, are_octets_if_any, is_body, is_code, is_identifier, is_identifier_if_any, is_long, is_problem, is_address, is_request, is_short}
use Rattle.tcap_model.specs.Words.Request.{AbortReason, ComponentRequest, DialogueRequest, Ending, Request}
use Rattle.tcap_play.specs.ScriptLine.{ScriptLine, called_on, received_on, portion_request_on, begin_request_of, asked_on, portion_request_named, portion_request_of, abort_request_of, last_request_of, more_request_of, cancel_request_of, error_request_of, reject_request_of, invoke_request_of, line_of_two, line_of_three, line_of_four, line_of_five, line_of_six, line_of_nine, line_of}
use Rattle.tcap_play.specs.ScriptWords.{MessageName, engine_of, name_of, milliseconds_of, dialogue_of, identifier_of, optional_identifier_of, class_of, code_of, octets_of, named_address, optional_octets_of, body_of, problem_of, reason_of}
use Rattle.tcap_play.specs.Sides.{Engine, address_of, far}
use Rattle.tcap_play.proofs.Octets.OctetLists.{Octets}
use Rattle.tcap_play.proofs.Nets.WordRanges.{Holds, either, both-true, dialogue-in, milliseconds-in, identifier-in, optional-identifier-in, code-in, octets-in, address-in, optional-octets-in, body-in, problem-in}

-- ---- requests

abbrev RequestIn : Request → Type 0
RequestIn request = is_request request ≡ true

named-in : (to : Address) (name : List ℕ) (context : Option (List ℕ)) (information : List ℕ) → is_address to ≡ true
    → are_octets_if_any context ≡ true → Octets information
    → Holds (λ (x : DialogueRequest). RequestIn (Request.dialogue x)) (portion_request_named to name context information)
named-in to name context information place named octets =
    let P : DialogueRequest → Type 0 = λ x. RequestIn (Request.dialogue x) in
    let is = both-true (are_octets_if_any context) (list_all (λ b. nat_lt b 0x100) information) named octets in
    let goes =
    both-true (is_address to && are_octets_if_any context) (list_all (λ b. nat_lt b 0x100) information)
    (both-true (is_address to) (are_octets_if_any context) place named) octets in
    either P (bytes_eq name (codes "uni")) _ _ goes
    (either P (bytes_eq name (codes "begin")) _ _ goes
    (either P (bytes_eq name (codes "continue")) _ _ is
    (either P (bytes_eq name (codes "end")) _ None is tt)))

some-request : (asked : Option DialogueRequest) → Holds (λ (x : DialogueRequest). RequestIn (Request.dialogue x)) asked
    → Holds RequestIn (asked >>= (λ r. Some (Request.dialogue r)))
some-request None is = tt
some-request (Some asked) is = is

some-portion : (to : Address) (name : List ℕ) (context : Option (Option (List ℕ))) (information : Option (List ℕ))
    → is_address to ≡ true → Holds (λ (x : Option (List ℕ)). are_octets_if_any x ≡ true) context → Holds Octets information
    → Holds RequestIn (context >>= (λ c. information >>= (λ i. portion_request_named to name c i >>= (λ r. Some (Request.dialogue r)))))
some-portion to name None information place named octets = tt
some-portion to name (Some context) None place named octets = tt
some-portion to name (Some context) (Some information) place named octets =
    some-request (portion_request_named to name context information) (named-in to name context information place named octets)

portion-in : (to : Address) (name context information : List ℕ) → is_address to ≡ true
    → Holds RequestIn (portion_request_of to name context information)
portion-in to name context information place =
    some-portion to name (optional_octets_of context) (octets_of information) place (optional-octets-in context) (octets-in information)

-- each engine's address is one
address-is : (engine : Engine) → is_address (address_of engine) ≡ true
address-is Engine.a = refl
address-is Engine.b = refl

portion-on : (engine : Option Engine) (name context information : List ℕ)
    → Holds RequestIn (engine >>= (λ e. portion_request_of (address_of (far e)) name context information))
portion-on None name context information = tt
portion-on (Some engine) name context information =
    portion-in (address_of (far engine)) name context information (address-is (far engine))

begin-to : (to : Option Address) (context information : List ℕ) → Holds (λ (x : Address). is_address x ≡ true) to
    → Holds RequestIn (to >>= (λ a. portion_request_of a (codes "begin") context information))
begin-to None context information place = tt
begin-to (Some to) context information place = portion-in to (codes "begin") context information place

some-abort : (reason : Option AbortReason) (information : Option (List ℕ)) → Holds Octets information
    → Holds RequestIn (reason >>= (λ r. information >>= (λ i. Some (Request.dialogue (DialogueRequest.u_abort r i)))))
some-abort None information octets = tt
some-abort (Some reason) None octets = tt
some-abort (Some reason) (Some information) octets = octets

some-last : (id : Option ℤ) (body : Option (Option BodyParts)) → Holds (λ (x : ℤ). is_identifier x ≡ true) id
    → Holds (λ (x : Option BodyParts). is_body x ≡ true) body
    → Holds RequestIn (id >>= (λ i. body >>= (λ b. Some (Request.component (ComponentRequest.result_last i b)))))
some-last None body is held = tt
some-last (Some id) None is held = tt
some-last (Some id) (Some body) is held = both-true (is_identifier id) (is_body body) is held

some-more : (id : Option ℤ) (body : Option (Option BodyParts)) → Holds (λ (x : ℤ). is_identifier x ≡ true) id
    → Holds (λ (x : Option BodyParts). is_body x ≡ true) body
    → Holds RequestIn (id >>= (λ i. body >>= (λ b. Some (Request.component (ComponentRequest.result_more i b)))))
some-more None body is held = tt
some-more (Some id) None is held = tt
some-more (Some id) (Some body) is held = both-true (is_identifier id) (is_body body) is held

some-cancel : (id : Option ℤ) → Holds (λ (x : ℤ). is_identifier x ≡ true) id
    → Holds RequestIn (id >>= (λ i. Some (Request.component (ComponentRequest.u_cancel i))))
some-cancel None is = tt
some-cancel (Some id) is = is

some-error : (id : Option ℤ) (code : Option CodeParts) (parameter : Option (Option (List ℕ)))
    → Holds (λ (x : ℤ). is_identifier x ≡ true) id → Holds (λ (x : CodeParts). is_code x ≡ true) code
    → Holds (λ (x : Option (List ℕ)). are_octets_if_any x ≡ true) parameter
    → Holds RequestIn (id >>= (λ i. code >>= (λ c. parameter >>= (λ p. Some (Request.component (ComponentRequest.error_back i c p))))))
some-error None code parameter is coded held = tt
some-error (Some id) None parameter is coded held = tt
some-error (Some id) (Some code) None is coded held = tt
some-error (Some id) (Some code) (Some parameter) is coded held =
    both-true (is_identifier id && is_code code) (are_octets_if_any parameter) (both-true (is_identifier id) (is_code code) is coded) held

some-reject : (id : Option (Option ℤ)) (problem : Option ProblemParts)
    → Holds (λ (x : Option ℤ). is_identifier_if_any x ≡ true) id → Holds (λ (x : ProblemParts). is_problem x ≡ true) problem
    → Holds RequestIn (id >>= (λ i. problem >>= (λ p. Some (Request.component (ComponentRequest.u_reject i p)))))
some-reject None problem is low = tt
some-reject (Some id) None is low = tt
some-reject (Some id) (Some problem) is low = both-true (is_identifier_if_any id) (is_problem problem) is low

some-invoke : (id : Option ℤ) (class : Option Class) (code : Option CodeParts) (timeout : Option ℕ) (linked : Option (Option ℤ))
    (parameter : Option (Option (List ℕ))) → Holds (λ (x : ℤ). is_identifier x ≡ true) id
    → Holds (λ (x : CodeParts). is_code x ≡ true) code → Holds (λ (x : ℕ). is_long x ≡ true) timeout
    → Holds (λ (x : Option ℤ). is_identifier_if_any x ≡ true) linked
    → Holds (λ (x : Option (List ℕ)). are_octets_if_any x ≡ true) parameter
    → Holds RequestIn (id >>= (λ i. class >>= (λ k. code >>= (λ c. timeout >>= (λ t. linked >>= (λ l. parameter >>= (λ p. Some (Request.component (ComponentRequest.invoke i k c p l t)))))))))
some-invoke None class code timeout linked parameter is coded timed to held = tt
some-invoke (Some id) None code timeout linked parameter is coded timed to held = tt
some-invoke (Some id) (Some class) None timeout linked parameter is coded timed to held = tt
some-invoke (Some id) (Some class) (Some code) None linked parameter is coded timed to held = tt
some-invoke (Some id) (Some class) (Some code) (Some timeout) None parameter is coded timed to held = tt
some-invoke (Some id) (Some class) (Some code) (Some timeout) (Some linked) None is coded timed to held = tt
some-invoke (Some id) (Some class) (Some code) (Some timeout) (Some linked) (Some parameter) is coded timed to held =
    both-true (is_identifier id && is_code code && are_octets_if_any parameter && is_identifier_if_any linked) (is_long timeout)
    (both-true (is_identifier id && is_code code && are_octets_if_any parameter) (is_identifier_if_any linked)
    (both-true (is_identifier id && is_code code) (are_octets_if_any parameter) (both-true (is_identifier id) (is_code code) is coded) held) to) timed

-- ---- lines

abbrev pub LineIn : ScriptLine → Type 0
LineIn (ScriptLine.call engine event) = InRange event
LineIn (ScriptLine.deliver name) = Unit {0}
LineIn (ScriptLine.again name) = Unit {0}
LineIn (ScriptLine.lose name) = Unit {0}
LineIn (ScriptLine.advance now) = is_long now ≡ true

called : (engine : Option Engine) (event : Event) → InRange event → Holds LineIn (engine >>= (λ e. Some (ScriptLine.call e event)))
called None event within = tt
called (Some engine) event within = within

received-by : (engine : Option Engine) (octets : List ℕ) → Octets octets
    → Holds LineIn (engine >>= (λ e. Some (ScriptLine.call e (Event.received (address_of (far e)) octets))))
received-by None octets are = tt
received-by (Some engine) octets are =
    both-true (is_address (address_of (far engine))) (list_all (λ b. nat_lt b 0x100) octets) (address-is (far engine)) are

received : (side : List ℕ) (octets : Option (List ℕ)) → Holds Octets octets → Holds LineIn (octets >>= received_on side)
received side None are = tt
received side (Some octets) are = received-by (engine_of side) octets are

received-other : (side : List ℕ) (from : Option Address) (octets : Option (List ℕ)) → Holds (λ (x : Address). is_address x ≡ true) from
    → Holds Octets octets
    → Holds LineIn (from >>= (λ f. octets >>= (λ o. called_on side (Event.received f o))))
received-other side None octets place are = tt
received-other side (Some from) None place are = tt
received-other side (Some from) (Some octets) place are =
    called (engine_of side) (Event.received from octets) (both-true (is_address from) (list_all (λ b. nat_lt b 0x100) octets) place are)

asked-by : (engine : Option Engine) (dialogue : Option ℕ) (request : Request) → Holds (λ (x : ℕ). is_short x ≡ true) dialogue
    → RequestIn request
    → Holds LineIn (engine >>= (λ e. dialogue >>= (λ d. Some (ScriptLine.call e (Event.on_dialogue d request)))))
asked-by None dialogue request short is = tt
asked-by (Some engine) None request short is = tt
asked-by (Some engine) (Some dialogue) request short is = both-true (is_short dialogue) (is_request request) short is

asked : (side dialogue : List ℕ) (request : Option Request) → Holds RequestIn request
    → Holds LineIn (request >>= asked_on side dialogue)
asked side dialogue None is = tt
asked side dialogue (Some request) is = asked-by (engine_of side) (dialogue_of dialogue) request (dialogue-in dialogue) is

delivers : (name : Option MessageName) → Holds LineIn (option_map (λ n. ScriptLine.deliver n) name)
delivers None = tt
delivers (Some name) = tt

repeats : (name : Option MessageName) → Holds LineIn (option_map (λ n. ScriptLine.again n) name)
repeats None = tt
repeats (Some name) = tt

loses : (name : Option MessageName) → Holds LineIn (option_map (λ n. ScriptLine.lose n) name)
loses None = tt
loses (Some name) = tt

advances : (now : Option ℕ) → Holds (λ (x : ℕ). is_long x ≡ true) now → Holds LineIn (option_map (λ n. ScriptLine.advance n) now)
advances None long = tt
advances (Some now) long = long

two-in : (first second : List ℕ) → Holds LineIn (line_of_two first second)
two-in first second =
    either LineIn (bytes_eq first (codes "deliver")) _ _ (delivers (name_of second))
    (either LineIn (bytes_eq first (codes "again")) _ _ (repeats (name_of second))
    (either LineIn (bytes_eq first (codes "lose")) _ _ (loses (name_of second))
    (either LineIn (bytes_eq first (codes "advance")) _ _ (advances (milliseconds_of second) (milliseconds-in second))
    (either LineIn (bytes_eq second (codes "new")) _ None (called (engine_of first) Event.new_dialogue refl) tt))))

three-in : (side name word : List ℕ) → Holds LineIn (line_of_three side name word)
three-in side name word =
    either LineIn (bytes_eq name (codes "raw")) _ _ (received side (octets_of word) (octets-in word))
    (either LineIn (bytes_eq name (codes "prearranged")) _ None
    (asked-by (engine_of side) (dialogue_of word) (Request.dialogue (DialogueRequest.finish Ending.prearranged None [])) (dialogue-in word) refl) tt)

four-in : (side name third last : List ℕ) → Holds LineIn (line_of_four side name third last)
four-in side name third last =
    either LineIn (bytes_eq name (codes "cancel")) _ _
    (asked side third (cancel_request_of last) (some-cancel (identifier_of last) (identifier-in last)))
    (either LineIn (bytes_eq name (codes "rawfrom")) _ None
    (received-other side (named_address third) (octets_of last) (address-in third) (octets-in last)) tt)

five-in : (side name dialogue word information : List ℕ) → Holds LineIn (line_of_five side name dialogue word information)
five-in side name dialogue word information =
    either LineIn (bytes_eq name (codes "abort")) _ _
    (asked side dialogue (abort_request_of word information) (some-abort (reason_of word) (octets_of information) (octets-in information)))
    (asked side dialogue (portion_request_on side name word information) (portion-on (engine_of side) name word information))

six-in : (side name dialogue id word last : List ℕ) → Holds LineIn (line_of_six side name dialogue id word last)
six-in side name dialogue id word last =
    either LineIn (bytes_eq name (codes "last")) _ _
    (asked side dialogue (last_request_of id word last) (some-last (identifier_of id) (body_of word last) (identifier-in id) (body-in word last)))
    (either LineIn (bytes_eq name (codes "more")) _ _
    (asked side dialogue (more_request_of id word last) (some-more (identifier_of id) (body_of word last) (identifier-in id) (body-in word last)))
    (either LineIn (bytes_eq name (codes "error")) _ _
    (asked side dialogue (error_request_of id word last)
    (some-error (identifier_of id) (code_of word) (optional_octets_of last) (identifier-in id) (code-in word) (optional-octets-in last)))
    (either LineIn (bytes_eq name (codes "reject")) _ _
    (asked side dialogue (reject_request_of id word last)
    (some-reject (optional_identifier_of id) (problem_of word last) (optional-identifier-in id) (problem-in word last)))
    (either LineIn (bytes_eq name (codes "beginto")) _ None
    (asked side dialogue (begin_request_of id word last) (begin-to (named_address id) word last (address-in id))) tt))))

nine-in : (side name dialogue id class code timeout linked parameter : List ℕ)
    → Holds LineIn (line_of_nine side name dialogue (invoke_request_of id class code timeout linked parameter))
nine-in side name dialogue id class code timeout linked parameter =
    either LineIn (bytes_eq name (codes "invoke")) _ None
    (asked side dialogue (invoke_request_of id class code timeout linked parameter)
    (some-invoke (identifier_of id) (class_of class) (code_of code) (milliseconds_of timeout) (optional_identifier_of linked) (optional_octets_of parameter)
    (identifier-in id) (code-in code) (milliseconds-in timeout) (optional-identifier-in linked) (optional-octets-in parameter))) tt

pub line-in : (words : List (List ℕ)) → Holds LineIn (line_of words)
line-in [] = tt
line-in (a ∷ []) = tt
line-in (a ∷ b ∷ []) = two-in a b
line-in (a ∷ b ∷ c ∷ []) = three-in a b c
line-in (a ∷ b ∷ c ∷ d ∷ []) = four-in a b c d
line-in (a ∷ b ∷ c ∷ d ∷ e ∷ []) = five-in a b c d e
line-in (a ∷ b ∷ c ∷ d ∷ e ∷ f ∷ []) = six-in a b c d e f
line-in (a ∷ b ∷ c ∷ d ∷ e ∷ f ∷ g ∷ []) = tt
line-in (a ∷ b ∷ c ∷ d ∷ e ∷ f ∷ g ∷ h ∷ []) = tt
line-in (a ∷ b ∷ c ∷ d ∷ e ∷ f ∷ g ∷ h ∷ i ∷ []) = nine-in a b c d e f g h i
line-in (a ∷ b ∷ c ∷ d ∷ e ∷ f ∷ g ∷ h ∷ i ∷ j ∷ more) = tt
