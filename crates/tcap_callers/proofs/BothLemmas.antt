-- Two engines of a caller, from one turn to the next.
use Rattle.std.proofs.Common.{◌≡◌, ◌≢◌, refl, sym, ap, subst, ◌∙◌, ℕ, ℤ, zero, suc, Bool, true, bytes_eq, List, [], ◌∷◌, ◌++◌, map, take, Option, Some, IsTrue, if◌then◌else◌}
use Rattle.std.specs.List.{list_any, slice_get}
use Rattle.std.proofs.lemmas.Bool.{or_right}
use Rattle.std.proofs.lemmas.Option.{slice_get-map}
use Rattle.std.specs.declared.vec.Vec.{Vec}
use Rattle.std.proofs.lemmas.Slice.Eq.{bytes_eq-Decides}
use Rattle.tcap_primitives.specs.declared.output.Output.TheVariants as output
use Rattle.tcap_primitives.specs.declared.output.Output as rust
use Rattle.tcap_primitives.specs.OutputViews.{shown, all_shown}
use Rattle.tcap_engine.specs.declared.event.Answer as given
use Rattle.tcap_engine.specs.declared.event.Answer.TheVariants as answer
use Rattle.tcap_engine.specs.EventViews.{answer_view, answers_view}
use Rattle.tcap_engine.specs.Running.{StandsThrough}
use Rattle.tcap_engine.specs.TwoEnds.{AreCarried, HearOneAnother, NewOnesHear, EachMayRely, EachRunIsHeard, EachSendIsSent, EachAnswerIsGiven, OthersStay, net_after}
use Rattle.tcap_model.specs.Histories.History.{History}
use Rattle.tcap_component.specs.Component.{BodyParts}
use Rattle.std.specs.Option.{option_map}
use Rattle.tcap_model.specs.Histories.History.{Start}
use Rattle.tcap_model.specs.Replies.Legal.{is_start}
use Rattle.tcap_model.specs.Statements.FarAnswer.{FarAnswer, FarSource, IsAnswer}
use Rattle.tcap_model.specs.Statements.Net.{AreApart, Engine, Net, Places, answer_sends, history_in, is_at, is_send}
use Rattle.tcap_laws.proofs.CallerLemmas.{TellsOf, apart-by, far-other}
use Rattle.tcap_model.specs.Statements.Places.{Tells}
use Rattle.tcap_model.specs.Words.Output as model
use Rattle.tcap_model.specs.Words.Output.{Closing, ComponentIndication}
use Rattle.tcap_model.specs.Words.Request.{ComponentRequest, Request}
use Rattle.tcap_model.specs.Table.World.{World, StandsAt, first_world}
use Rattle.tcap_model.specs.Words.Address.{Address}
use Rattle.tcap_model.specs.Words.Answer.{Answer}
use Rattle.tcap_model.specs.Words.Event.{Event}
use Rattle.tcap_callers.specs.TwoEngines.{ComesBack, GoesOn, GoneOn, Hears, IsSentTo, TellsResult, two_places, two_worlds}

-- A run of one of them over some events, of which so many were done; the answers stand alone.
pub goes-on : EachRunIsHeard → EachSendIsSent → EachAnswerIsGiven
    → (events : List Event) (count : ℕ) (answers : List Answer) (old new : World)
    → ((h : History) → StandsAt h old → StandsThrough h (take count events) new [] answers)
    → GoesOn events answers old new
goes-on heard sends givens events count answers old new stands net engine carried engines after hear was is still =
    let h = history_in net engine net.trace in
    let through : StandsThrough h (take count events) (after engine) [] answers =
    subst (λ (w : World). StandsThrough h (take count events) w [] answers) (sym is)
    (stands h (subst (StandsAt h) was (hear.stands engine))) in
    record {
      events = take count events;
      hear = heard net engines after engine events count [] answers hear carried through still;
      sent = λ receiver bytes sent. sends h net.trace net.places engine receiver (take count events) (after engine) [] answers bytes
          through sent;
      given = λ earlier later answer e. givens h net.trace engine (take count events) (after engine) [] answers earlier later answer through e;
    }

-- ---- what is in some answers

-- An element of a list, between those before it and those after it.
pub record Split {X : Type 0} (xs : List X) (x : X) : Type 0 where
  pub earlier : List X
  pub later : List X
  pub is_list : xs ≡ earlier ++ x ∷ later

split-at : {X : Type 0} (xs : List X) (i : ℕ) (x : X) → slice_get xs i ≡ Some x → Split xs x
split-at [] i x e = absurd cc
split-at (y ∷ ys) zero x e =
    let is : y ≡ x = cc in
    record { earlier = []; later = ys; is_list = ap (λ z. z ∷ ys) is }
split-at (y ∷ ys) (suc i) x e =
    let rest = split-at ys i x e in
    record { earlier = y ∷ rest.earlier; later = rest.later; is_list = ap (λ zs. y ∷ zs) rest.is_list }

any-at : {X : Type 0} (p : X → Bool) (xs : List X) (i : ℕ) (x : X) → slice_get xs i ≡ Some x → p x ≡ true
    → list_any p xs ≡ true
any-at p [] i x e holds = absurd cc
any-at p (y ∷ ys) zero x e holds =
    let is : y ≡ x = cc in
    rw (is, holds) refl
any-at p (y ∷ ys) (suc i) x e holds = or_right (p y) _ (any-at p ys i x e holds)

-- An element by what is seen of it.
view-at : {X Y : Type 0} (view : X → Y) (xs : List X) (i : ℕ) (x : X) (y : Y) → slice_get xs i ≡ Some x → view x ≡ y
    → slice_get (map view xs) i ≡ Some y
view-at view xs i x y e seen = slice_get-map view xs i ∙ ap (option_map view) e ∙ ap Some seen

same : (places : Places) (receiver : Engine) (to : Address) (bytes : List ℕ) → is_at places receiver to ≡ true
    → is_send places receiver bytes (model.Output.send to bytes) ≡ true
same places receiver to bytes is_to = rw (is_to, (bytes_eq-Decides bytes bytes).1 refl) refl

-- One of some answers sends these octets to this address.
pub sent-at : {A : Type 0} (answers : List (given.Answer A)) (i : ℕ) (outputs : Vec (rust.Output A) A) (items : List (rust.Output A)) (j : ℕ) (to : Address) (octets : Vec ℕ A) (bytes : List ℕ)
    → slice_get answers i ≡ Some (answer.Outputs outputs) → items ≡ outputs.items → slice_get items j ≡ Some (output.Send to octets)
    → bytes ≡ octets.items → IsSentTo to bytes (answers_view answers)
sent-at answers i outputs items j to octets bytes found is sends bytes_are places receiver is_to =
    rw bytes_are (any-at (answer_sends places receiver octets.items) (map answer_view answers) i (Answer.outputs (all_shown outputs.items))
    (view-at answer_view answers i (answer.Outputs outputs) _ found refl)
    (any-at (is_send places receiver octets.items) (map shown outputs.items) j (model.Output.send to octets.items)
    (view-at shown outputs.items j (output.Send to octets) _ (subst (λ xs. slice_get xs j ≡ Some (output.Send to octets)) is sends) refl)
    (same places receiver to octets.items is_to)))

-- One of some answers tells this.
tells-at : (outputs : List model.Output) (j : ℕ) (output : model.Output) → slice_get outputs j ≡ Some output
    → Tells (Answer.outputs outputs) output
tells-at outputs j output e =
    let s = split-at outputs j output e in
    record { earlier = s.earlier; later = s.later; is_answer = ap Answer.outputs s.is_list }

-- The result of an invocation is told in one of some answers.
pub result-at : {A : Type 0} (answers : List (given.Answer A)) (i : ℕ) (outputs : Vec (rust.Output A) A) (items : List (rust.Output A)) (j : ℕ) (told : rust.Output A) (dialogue number : ℕ) (id : ℤ) (body : Option BodyParts)
    → slice_get answers i ≡ Some (answer.Outputs outputs) → items ≡ outputs.items → slice_get items j ≡ Some told
    → shown told ≡ model.Output.component (ComponentIndication.closed dialogue number id (Closing.result_last body))
    → TellsResult dialogue number (answers_view answers)
result-at answers i outputs items j told dialogue number id body found is tells seen =
    let s = split-at (map answer_view answers) i (Answer.outputs (all_shown outputs.items)) (view-at answer_view answers i (answer.Outputs outputs) _ found refl) in
    record {
      id = id;
      body = body;
      answer = Answer.outputs (all_shown outputs.items);
      earlier = s.earlier;
      later = s.later;
      is_answers = s.is_list;
      tells = tells-at (map shown outputs.items) j _ (view-at shown outputs.items j told _ (subst (λ xs. slice_get xs j ≡ Some told) is tells) seen);
    }

-- ---- one operation

-- They start so.
all-start : (one other : World) (start : Start) → one ≡ first_world start → other ≡ first_world start
    → (engine : Engine) → two_worlds one other (first_world start) engine ≡ first_world start
all-start one other start is_one is_other zero = is_one
all-start one other start is_one is_other (suc zero) = is_other
all-start one other start is_one is_other (suc (suc more)) = refl

-- The address 01 is the first's, any other the second's.
abbrev at_whose : Address → Engine
at_whose address = if bytes_eq address (1 ∷ []) then 0 else 1

two-apart : AreApart two_places
two-apart = apart-by at_whose two_places told
  where
    told : (engine : Engine) → TellsOf at_whose engine (two_places engine)
    told zero = (refl, tt)
    told (suc zero) = (refl, tt)
    told (suc (suc more)) = tt

-- An engine at an address that isn't the first is the second.
is-second : (engine : Engine) (address : Address) → is_at two_places engine address ≡ true → engine ≢ 0 → engine ≡ 1
is-second zero address there other = absurd (other refl)
is-second (suc zero) address there other = refl
is-second (suc (suc more)) address there other = absurd cc

-- The one goes on, the other and all else stay.
one-goes : (one other none after : World) → OthersStay 0 (two_worlds one other none) (two_worlds after other none)
one-goes one other none after zero differs = absurd (differs refl)
one-goes one other none after (suc zero) differs = refl
one-goes one other none after (suc (suc more)) differs = refl

other-goes : (one other none after : World) → OthersStay 1 (two_worlds one other none) (two_worlds one after none)
other-goes one other none after zero differs = refl
other-goes one other none after (suc zero) differs = absurd (differs refl)
other-goes one other none after (suc (suc more)) differs = refl

first-last : ◌≡◌ {A = Engine} 0 1 → ⊥
first-last e = absurd cc

last-first : ◌≡◌ {A = Engine} 1 0 → ⊥
last-first e = absurd cc

-- The first asks, the other hears it and answers, and the first hears that.
pub comes-back : NewOnesHear → EachMayRely → (start : Start) → IsTrue (is_start start)
    → (one other one_asked other_heard other_replied one_told : World)
    → one ≡ first_world start → other ≡ first_world start
    → (asks replies : List Event) (asked heard replied told : List Answer) (here there : Address)
    → here ≡ 1 ∷ [] → there ≡ 2 ∷ []
    → GoesOn asks asked one one_asked → AreCarried two_places 0 asks [] → Hears asked here there heard other other_heard
    → GoesOn replies replied other_heard other_replied → ((net : Net) → AreCarried net.places 1 replies net.trace)
    → Hears replied there here told one_asked one_told
    → (dialogue number : ℕ) → TellsResult dialogue number told → ComesBack dialogue number
comes-back new rely start begins one other one_asked other_heard other_replied one_told is_one is_other asks replies asked heard replied told here there is_here is_there asking asks_own hearing replying replies_own learning dialogue number t =
    let net : Net = record { start = λ engine. start; places = two_places; trace = [] } in
    let none : World = first_world start in
    let at_here : is_at two_places 0 here ≡ true = rw is_here refl in
    let at_there : is_at two_places 1 there ≡ true = rw is_there refl in
    let hear : HearOneAnother net (two_worlds one other none) =
    new (λ engine. start) two_places (two_worlds one other none) (λ engine. begins) (all-start one other start is_one is_other) two-apart in
    let first : GoneOn net 0 asked (two_worlds one_asked other none) =
    asking net 0 asks_own (two_worlds one other none) (two_worlds one_asked other none) hear refl refl (one-goes one other none one_asked) in
    let after_first : Net = net_after 0 first.events asked net in
    let second : GoneOn after_first 1 heard (two_worlds one_asked other_heard none) =
    hearing after_first 0 1 first-last at_here at_there (first.sent 1) (two_worlds one_asked other none)
    (two_worlds one_asked other_heard none) first.hear refl refl (other-goes one_asked other none other_heard) in
    let after_second : Net = net_after 1 second.events heard after_first in
    let third : GoneOn after_second 1 replied (two_worlds one_asked other_replied none) =
    replying after_second 1 (replies_own after_second) (two_worlds one_asked other_heard none)
    (two_worlds one_asked other_replied none) second.hear refl refl (other-goes one_asked other_heard none other_replied) in
    let after_third : Net = net_after 1 third.events replied after_second in
    let last : GoneOn after_third 0 told (two_worlds one_told other_replied none) =
    learning after_third 1 0 last-first at_there at_here (third.sent 0) (two_worlds one_asked other_replied none)
    (two_worlds one_told other_replied none) third.hear refl refl (one-goes one_asked other_replied none one_told) in
    let after_last : Net = net_after 0 last.events told after_third in
    let all_rely = rely after_last (two_worlds one_told other_replied none) last.hear in
    let stands = last.given t.earlier t.later t.answer t.is_answers in
    let answer : FarAnswer after_last.trace = record {
      engine = 0;
      pair = record { event = stands.event; answer = t.answer; idle_ms = stands.idle_ms };
      before = stands.before;
      dialogue = dialogue;
      number = number;
      id = t.id;
      output = model.Output.component (ComponentIndication.closed dialogue number t.id (Closing.result_last t.body));
      request = Request.component (ComponentRequest.result_last t.id t.body);
      happens = stands.happens;
      tells = t.tells;
      is_answer = IsAnswer.a_result_last t.body;
    } in
    let source : FarSource two_places answer = all_rely.two_ends.origin answer in
    record {
      net = after_last;
      body = t.body;
      is_net = all_rely.is_net;
      are_two = refl;
      told = answer;
      is_first = refl;
      is_dialogue = refl;
      is_number = refl;
      is_result = refl;
      source = source;
      is_second = is-second source.far source.hears.from source.hears.is_from
          (far-other after_last all_rely.is_net answer source);
    }
