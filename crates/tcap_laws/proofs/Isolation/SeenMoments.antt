-- A moment tells a dialogue the lapses that it would tell it alone, in their order.
use Rattle.std.proofs.Common.{◌≡◌, ◌≢◌, ℕ, ◌+◌, ◌==◌, Bool, true, false, cond, ◌&&◌, nat_le, nat_lt, List, [], ◌∷◌, ◌++◌, Contains, Option, Some, None, refl, sym, ap, subst, ◌∙◌, arith, if◌then◌else◌}
use Rattle.std.proofs.lemmas.Bool.{eqb-true, true≢false}
use Rattle.std.proofs.lemmas.List.Elements.{Contains-append_right, filter-append}
use Rattle.std.specs.List.{cons_option, flat_map}
use Rattle.std.specs.Prelude.{filter, filter_map, map, option_map}
use Rattle.tcap_laws.proofs.Isolation.KeyedLists.{filter-in_order}
use Rattle.tcap_laws.proofs.Births.NumbersFound.{invocation_of-found}
use Rattle.tcap_laws.proofs.Isolation.SeenBytes.{alone-bytes}
use Rattle.tcap_laws.proofs.Isolation.SeenIdle.{only_idle}
use Rattle.tcap_laws.proofs.Isolation.SeenInvocations.{found_span}
use Rattle.tcap_laws.proofs.Isolation.SeenLives.{only_clock}
use Rattle.tcap_laws.proofs.Isolation.SeenRequests.{alone_request}
use Rattle.tcap_model.specs.Words.Answer.{Answer}
use Rattle.tcap_model.specs.Histories.Clock.{clock}
use Rattle.tcap_model.specs.Invocations.Deadline.{sent_clock, deadline}
use Rattle.tcap_model.specs.Words.Event.{Event}
use Rattle.tcap_model.specs.Words.Fault.{Fault}
use Rattle.tcap_model.specs.Histories.History.{History, Start}
use Rattle.tcap_model.specs.Invocations.Invocation.{Invocation, invocations}
use Rattle.tcap_model.specs.Statements.Isolation.{IsAlone, EachIsAlone}
use Rattle.tcap_model.specs.Replies.Legal.{AreReplies, IsLegal}
use Rattle.tcap_model.specs.Statements.Only.{is_output_of, answer_within, only}
use Rattle.tcap_model.specs.Invocations.Outcome.{is_sent_in}
use Rattle.tcap_model.specs.Histories.Pair.{Past}
use Rattle.tcap_model.specs.Words.KeyOrder.{in_order}
use Rattle.tcap_model.specs.Words.Output.{Output}
use Rattle.tcap_model.specs.Replies.Reply.{Lapsing, lapse_key, lapsing_by, lapsing_at, lapse_told, lapses, idle_told, idle_dialogues, moment_outputs, moment_answer, reply}
use Rattle.tcap_model.specs.Words.Request.{Request}
use Rattle.tcap_model.specs.Invocations.Span.{span}
use Rattle.tcap_model.specs.Words.Time.{moment_fault}
use Rattle.tcap_laws.proofs.Isolation.OwnInvocations.{is_of_dialogue, only_invocations, own_true}

-- ---- lists

filter-map : {X Y : Type 0} (own : Y → Bool) (f : X → Y) (xs : List X)
    → filter own (map f xs) ≡ map f (filter (λ x. own (f x)) xs)
filter-map own f [] = refl
filter-map {X = X} own f (x ∷ xs) = go (own (f x)) (filter-map own f xs)
  where
    go : (b : Bool) → filter own (map f xs) ≡ map f (filter (λ x. own (f x)) xs)
        → cond b (f x ∷ filter own (map f xs)) (filter own (map f xs))
        ≡ map f (cond b (x ∷ filter (λ x. own (f x)) xs) (filter (λ x. own (f x)) xs))
    go true ih = ap (λ l. f x ∷ l) ih
    go false ih = ih

filter-twice : {X : Type 0} (own : X → Bool) (xs : List X) → filter own (filter own xs) ≡ filter own xs
filter-twice own [] = refl
filter-twice {X = X} own (x ∷ xs) = go (own x) refl (filter-twice own xs)
  where
    go : (b : Bool) → own x ≡ b → filter own (filter own xs) ≡ filter own xs
        → filter own (cond b (x ∷ filter own xs) (filter own xs)) ≡ cond b (x ∷ filter own xs) (filter own xs)
    go true e ih = ap (λ b. cond b (x ∷ filter own (filter own xs)) (filter own (filter own xs))) e ∙ ap (λ l. x ∷ l) ih
    go false e ih = ih

filter-of_map : {X Y : Type 0} (own : X → Bool) (out : Y → Bool) (f g : X → Option Y) (xs : List X)
    → ((x : X) → Contains xs x → own x ≡ true → g x ≡ f x) → ((x : X) (y : Y) → f x ≡ Some y → out y ≡ own x)
    → filter out (filter_map f xs) ≡ filter_map g (filter own xs)
filter-of_map own out f g [] same of = refl
filter-of_map {X = X} {Y = Y} own out f g (x ∷ xs) same of =
    go (own x) (f x) refl refl (filter-of_map own out f g xs
    (λ y at e. same y (Contains-append_right (x ∷ []) xs y at) e) of)
  where
    here : Contains (x ∷ xs) x
    here = (0, omega arith, refl)

    go : (b : Bool) (o : Option Y) → own x ≡ b → f x ≡ o → filter out (filter_map f xs) ≡ filter_map g (filter own xs)
        → filter out (cons_option o (filter_map f xs)) ≡ filter_map g (cond b (x ∷ filter own xs) (filter own xs))
    go true None e q ih =
        ih ∙ ap (λ (o : Option Y). cons_option o (filter_map g (filter own xs))) (sym (same x here e ∙ q))
    go true (Some y) e q ih =
        ap (λ b. cond b (y ∷ filter out (filter_map f xs)) (filter out (filter_map f xs))) (of x y q ∙ e)
        ∙ (ap (λ (l : List Y). y ∷ l) ih
        ∙ ap (λ (o : Option Y). cons_option o (filter_map g (filter own xs))) (sym (same x here e ∙ q)))
    go false None e q ih = ih
    go false (Some y) e q ih =
        ap (λ b. cond b (y ∷ filter out (filter_map f xs)) (filter out (filter_map f xs))) (of x y q ∙ e) ∙ ih

-- ---- lapses

lapsing-of : (now : ℕ) (sent : Bool) (i : Invocation) (o : Option ℕ) (l : Lapsing) → lapsing_by now sent i o ≡ Some l
    → l.invocation ≡ i
lapsing-of now sent i None l e = absurd cc
lapsing-of now sent i (Some deadline) l e = go (sent && nat_le deadline now) e
  where
    go : (b : Bool) → cond b (Some (record { deadline = deadline; invocation = i })) None ≡ Some l → l.invocation ≡ i
    go true e = let same : record { deadline = deadline; invocation = i } ≡ l =
        cc in ap (λ (l : Lapsing). l.invocation) (sym same)
    go false e = absurd cc

module _ (start : Start) (dialogue : ℕ) (past : Past) (legal : AreReplies start past) (now : ℕ) where
  abbrev out : Lapsing → Bool
  out l = is_output_of dialogue (lapse_told l)

  lapsing-same : (i : Invocation) → Contains (invocations past) i → is_of_dialogue dialogue i ≡ true
      → lapsing_at (only dialogue past) now i ≡ lapsing_at past now i
  lapsing-same i at own =
      ap (λ ms. lapsing_by now (is_sent_in i.class i.timeout ms) i
      (option_map (λ sent. sent + i.timeout) (sent_clock ms)))
      (found_span start dialogue past legal i.number i (invocation_of-found start past legal i at)
      (own_true dialogue i own))

  pub only_lapses : filter (is_output_of dialogue) (lapses past now) ≡ lapses (only dialogue past) now
  only_lapses =
      filter-map (is_output_of dialogue) lapse_told
      (in_order lapse_key (filter_map (lapsing_at past now) (invocations past)))
      ∙ ap (map lapse_told)
      (filter-in_order lapse_key out (filter_map (lapsing_at past now) (invocations past))
      ∙ ap (in_order lapse_key)
      (filter-of_map (is_of_dialogue dialogue) out (lapsing_at past now) (lapsing_at (only dialogue past) now)
      (invocations past) lapsing-same
      (λ i l e. ap (λ (i : Invocation). i.dialogue == dialogue)
      (lapsing-of now (is_sent_in i.class i.timeout (span i past)) i (deadline i past) l e))
      ∙ ap (filter_map (lapsing_at (only dialogue past) now)) (sym (only_invocations start dialogue past legal))))

  told-same : filter (is_output_of dialogue) (lapses past now)
      ≡ filter (is_output_of dialogue) (lapses (only dialogue past) now)
  told-same = sym (filter-twice (is_output_of dialogue) (lapses past now))
      ∙ ap (filter (is_output_of dialogue)) only_lapses

  outputs-same : (idle_ms : ℕ) → filter (is_output_of dialogue) (moment_outputs idle_ms past now)
      ≡ filter (is_output_of dialogue) (moment_outputs idle_ms (only dialogue past) now)
  outputs-same idle_ms =
      filter-append (is_output_of dialogue) (lapses past now) (idle past)
      ∙ (ap (λ os. os ++ filter (is_output_of dialogue) (idle past)) told-same
      ∙ (ap (λ os. filter (is_output_of dialogue) (lapses seen now) ++ os)
      (only_idle start dialogue past legal idle_ms now)
      ∙ sym (filter-append (is_output_of dialogue) (lapses seen now) (idle seen))))
    where
      seen : Past
      seen = only dialogue past

      idle : Past → List Output
      idle at = flat_map (idle_told at now) (idle_dialogues idle_ms at now)

  moment-same : (idle_ms : ℕ) (f : Option Fault) → answer_within dialogue (moment_answer idle_ms past now f)
      ≡ answer_within dialogue (moment_answer idle_ms (only dialogue past) now f)
  moment-same idle_ms (Some f) = refl
  moment-same idle_ms None =
      early (nat_lt now (clock past))
      ∙ ap (λ c. answer_within dialogue (if nat_lt now c then Answer.outputs [] else Answer.outputs
      (moment_outputs idle_ms (only dialogue past) now))) (sym (only_clock dialogue past))
    where
      early : (b : Bool)
          → answer_within dialogue (if b then Answer.outputs [] else Answer.outputs (moment_outputs idle_ms past now))
          ≡ answer_within dialogue
          (if b then Answer.outputs [] else Answer.outputs (moment_outputs idle_ms (only dialogue past) now))
      early true = refl
      early false = ap Answer.outputs (outputs-same idle_ms)

pub alone-moment : (h : History) (dialogue : ℕ) → IsLegal h → (now : ℕ) → IsAlone h dialogue (Event.moment now)
alone-moment h dialogue legal now =
    moment-same h.start dialogue h.pairs legal.1 now h.start.idle_ms (moment_fault now)

-- ---- each event

on-request : (h : History) (dialogue asked : ℕ) (r : Request) → IsLegal h → asked ≡ dialogue
    → reply h (Event.on_dialogue asked r) ≢ Answer.refused Fault.numbers_spent
    → IsAlone h dialogue (Event.on_dialogue asked r)
on-request h dialogue asked r legal same =
    subst (λ d. reply h (Event.on_dialogue d r) ≢ Answer.refused Fault.numbers_spent
    → IsAlone h dialogue (Event.on_dialogue d r)) (sym same) (alone_request h dialogue legal r)

pub each-alone : EachIsAlone
each-alone h dialogue Event.new_dialogue legal named left = absurd (true≢false (sym named))
each-alone h dialogue (Event.on_dialogue asked r) legal named left =
    on-request h dialogue asked r legal (eqb-true asked dialogue named) left
each-alone h dialogue (Event.received from bytes) legal named left = alone-bytes h dialogue legal from bytes named
each-alone h dialogue (Event.moment now) legal named left = alone-moment h dialogue legal now
