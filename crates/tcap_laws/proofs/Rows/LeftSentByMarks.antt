-- What an answer leaves Sent, by the marks of an invocation.
use Rattle.std.proofs.Common.{◌≡◌, ℕ, ℤ, ◌&&◌, Bool, false, List, [], ◌∷◌, ◌++◌, map, Option, Some, None, Ok, Err, refl, ap, sym, ◌∙◌, append_assoc}
use Rattle.std.proofs.lemmas.List.{append-nil, map-append}
use Rattle.std.specs.Prelude.{is_none, is_some}
use Rattle.std.specs.Option.{option_or}
use Rattle.tcap_component.specs.Component.{ComponentParts}
use Rattle.tcap_invocation.specs.declared.class.Class.{Class}
use Rattle.tcap_invocation.specs.Class.{Received}
use Rattle.tcap_laws.proofs.Spans.DecisionSteps.{first_closing-append}
use Rattle.tcap_laws.proofs.Rows.LeftSentByRows.{stays}
use Rattle.tcap_laws.proofs.Spans.SentClocks.{sent_clock-append}
use Rattle.tcap_model.specs.Histories.Clock.{clock}
use Rattle.tcap_model.specs.Invocations.Closes.{closing_of}
use Rattle.tcap_model.specs.Procedures.ComponentHandling.{Item}
use Rattle.tcap_model.specs.Invocations.Deadline.{is_sent, sent_clock}
use Rattle.tcap_model.specs.Invocations.Invocation.{Invocation}
use Rattle.tcap_model.specs.Invocations.Marks.{Mark, Noted, marks_of_component, component_marks}
use Rattle.tcap_model.specs.Invocations.Outcome.{first_closing, is_sent_in}
use Rattle.tcap_model.specs.Words.Output.{Closing}
use Rattle.tcap_model.specs.Histories.Pair.{Past}
use Rattle.tcap_model.specs.Invocations.SentThere.{marks_up_to}
use Rattle.tcap_model.specs.Invocations.Span.{span}

-- each component could be read
abbrev pub AreRead : List Item → Type 0
AreRead [] = Unit {0}
AreRead (Ok c ∷ items) = AreRead items
AreRead (Err f ∷ items) = ⊥

pub more_read : (earlier : List Item) (c : ComponentParts) → AreRead earlier → AreRead (earlier ++ Ok c ∷ [])
more_read [] c a = tt
more_read (Ok d ∷ earlier) c a = more_read earlier c a
more_read (Err f ∷ earlier) c a = absurd a

sym_assoc : {X : Type 0} (xs ys zs : List X) → xs ++ (ys ++ zs) ≡ (xs ++ ys) ++ zs
sym_assoc xs ys zs = sym (append_assoc xs ys zs)

marks_more : (id : ℤ) (earlier : List Item) (c : ComponentParts) → AreRead earlier
    → component_marks id (earlier ++ Ok c ∷ []) ≡ component_marks id earlier ++ marks_of_component id c
marks_more id [] c a = append-nil (marks_of_component id c)
marks_more id (Ok d ∷ earlier) c a =
    ap (λ z. marks_of_component id d ++ z) (marks_more id earlier c a)
    ∙ sym_assoc (marks_of_component id d) (component_marks id earlier) (marks_of_component id c)
marks_more id (Err f ∷ earlier) c a = absurd a

-- the marks of an invocation after one component more
pub up_to_more : (past : Past) (earlier : List Item) (c : ComponentParts) (i : Invocation) → AreRead earlier
    → marks_up_to past (earlier ++ Ok c ∷ []) i ≡ marks_up_to past earlier i
    ++ map (λ mark. record { clock = clock past; mark = mark }) (marks_of_component i.id c)
up_to_more past earlier c i a =
    let f : Mark → Noted = λ mark. record { clock = clock past; mark = mark } in
    ap (λ z. span i past ++ map f z) (marks_more i.id earlier c a)
    ∙ (ap (λ z. span i past ++ z) (map-append f (component_marks i.id earlier) (marks_of_component i.id c))
    ∙ sym_assoc (span i past) (map f (component_marks i.id earlier)) (map f (marks_of_component i.id c)))

-- ---- one mark more

-- an answer's mark doesn't send, and leaves an invocation that is Sent so where its class says so
pub record IsMarkOf (received : Received) (mark : Mark) : Type 0 where
  pub sends_not : is_sent mark ≡ false
  pub closes : (class : Class) (timeout sent : ℕ)
      → is_none (closing_of class timeout (Some sent) mark) ≡ stays class received

pub one_more : (class : Class) (timeout c : ℕ) (received : Received) (mark : Mark) (marks : List Noted)
    → IsMarkOf received mark
    → is_sent_in class timeout (marks ++ record { clock = c; mark = mark } ∷ [])
    ≡ (is_sent_in class timeout marks && stays class received)
one_more class timeout c received mark marks a =
    ap (λ o. is_some o && is_none (first_closing class timeout (marks ++ new ∷ [])))
    (sent_clock-append marks (new ∷ []) ∙ none_sent)
    ∙ (ap (λ o. is_some (sent_clock marks) && is_none o) (first_closing-append class timeout marks (new ∷ []))
    ∙ go (sent_clock marks) (first_closing class timeout marks))
  where
    new : Noted
    new = record { clock = c; mark = mark }

    nothing : Option ℕ
    nothing = None

    or_none : (o : Option ℕ) → option_or o nothing ≡ o
    or_none None = refl
    or_none (Some k) = refl

    none_sent : option_or (sent_clock marks) (sent_clock (new ∷ [])) ≡ sent_clock marks
    none_sent = ap (λ o. option_or (sent_clock marks) o) (alone (is_sent mark) a.sends_not) ∙ or_none (sent_clock marks)
      where
        alone : (b : Bool) → b ≡ false → sent_clock (new ∷ []) ≡ None
        alone b e = rw a.sends_not refl

    last : (o : Option Closing) → option_or o None ≡ o
    last None = refl
    last (Some x) = refl

    go : (s : Option ℕ) (o : Option Closing) → (is_some s
        && is_none (option_or o (option_or (closing_of class timeout s mark) None)))
        ≡ ((is_some s && is_none o) && stays class received)
    go None o = refl
    go (Some k) None = ap is_none (last (closing_of class timeout (Some k) mark)) ∙ a.closes class timeout k
    go (Some k) (Some x) = refl
