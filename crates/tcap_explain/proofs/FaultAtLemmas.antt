-- What is explained is where the fault is, and nothing else is.
use Rattle.std.proofs.Common.{◌≡◌, ℕ, ◌+◌, ◌-◌, List, [], ◌∷◌, ◌++◌, length, Option, Some, None, option_map, IfSome, Ok, Err, Result, refl, sym, ap, subst, ◌∙◌, arith, ◌⊎◌, inl, inr, append_assoc}
use Rattle.std.proofs.lemmas.List.{length-append}
use Rattle.ber_core.proofs.CallerLemmas.{some_is, not_some}
use Rattle.tcap_pdu.specs.FrameSpelling.{Message}
use Rattle.tcap_pdu.specs.FrameLength.{dialogue_of}
use Rattle.tcap_pdu.specs.FramePortions.{components_in}
use Rattle.tcap_component.specs.Component.{ComponentParts}
use Rattle.tcap_component.specs.ComponentFault.{FaultParts, IsComponentFault}
use Rattle.tcap_component.specs.ComponentList.{SpellsComponents, FirstFault}
use Rattle.tcap_component.proofs.CallerLemmas.{component_again, component_told}
use Rattle.tcap_words.specs.declared.verdict.Verdict.{Verdict}
use Rattle.tcap_words.specs.declared.verdict.Verdict.TheVariants as verdict
use Rattle.tcap_words.specs.Verdict.{message_of, verdict_of}
use Rattle.tcap_explain.specs.declared.line.Line.{Line}
use Rattle.tcap_explain.specs.declared.line.Line.TheVariants as line
use Rattle.tcap_explain.specs.declared.line.ListLine.TheVariants as list
use Rattle.tcap_explain.specs.declared.line.MessageLine.TheVariants as message
use Rattle.tcap_explain.specs.declared.line.ComponentLine.TheVariants as component
use Rattle.tcap_explain.specs.declared.line.Explained.{Explained}
use Rattle.tcap_explain.specs.Explaining.{external_line, portion_place, dialogue_fault, left_of, faulty_component, component_fault, in_message, explained_by, explained_at}
use Rattle.tcap_explain.specs.FaultAt.{InDialogue, InComponent, InFormat, FaultBy, FaultAt}
use Rattle.tcap_explain.specs.Walk.{further, first_of, walk}
use Rattle.tcap_explain.proofs.UnmetLemmas.{walk-unmet, walk-stands}
use Rattle.tcap_explain.proofs.UnmetOnly.{unmet-some, stands-none}
use Rattle.tcap_explain.proofs.VerdictLemmas.{says-portions, faulty-component, message-component}
use Rattle.tcap_explain.proofs.WalkLemmas.{some}
use Rattle.tcap_explain.proofs.WayLemmas.{left-next, left-fault}

-- ---- options

abbrev Mapped : (Explained → Explained) → Option Explained → Explained → Type 0
Mapped f o x = (y : Explained) × (o ≡ Some y) × (x ≡ f y)

map-some : (f : Explained → Explained) (o : Option Explained) (x : Explained) → option_map f o ≡ Some x → Mapped f o x
map-some f None x e = absurd (not_some x e)
map-some f (Some y) x e = (y, refl, sym (some_is (f y) x e))

first_of-some : (a b : Option Explained) (x : Explained) → first_of a b ≡ Some x → (a ≡ Some x) ⊎ ((a ≡ None) × (b ≡ Some x))
first_of-some None b x e = inr (refl, e)
first_of-some (Some y) b x e = inl e

abbrev InRead : (Message → Option Explained) → Result Message Verdict → Explained → Type 0
InRead fault r x = (m : Message) × (r ≡ Ok m) × (fault m ≡ Some x)

in_message-some : (fault : Message → Option Explained) (r : Result Message Verdict) (x : Explained) → in_message fault r ≡ Some x → InRead fault r x
in_message-some fault (Ok m) x e = (m, refl, e)
in_message-some fault (Err v) x e = absurd (not_some x e)

-- ---- badly formatted

format-is : (bytes : List ℕ) (x : Explained) → explained_by verdict.BadlyFormatted bytes ≡ Some x → InFormat bytes x
format-is bytes x e = elim (first_of-some (walk (line.List list.OneElement) bytes) (walk (line.List list.OneConstructed) bytes) x e) [
  | inl a ↦ inl (walk-unmet (line.List list.OneElement) bytes x a)
  | inr b ↦ inr (walk-stands (line.List list.OneElement) bytes b.0, walk-unmet (line.List list.OneConstructed) bytes x b.1)
]

format-told : (bytes : List ℕ) (x : Explained) → InFormat bytes x → explained_by verdict.BadlyFormatted bytes ≡ Some x
format-told bytes x (inl u) = rw (unmet-some (line.List list.OneElement) bytes x u) refl
format-told bytes x (inr u) = rw (stands-none (line.List list.OneElement) bytes u.0, unmet-some (line.List list.OneConstructed) bytes x u.1) refl

-- ---- dialogue

portion-is : (bytes : List ℕ) (x : Explained) (m : Message) (d : Option (List ℕ)) → message_of bytes ≡ Ok m → dialogue_of m ≡ d → dialogue_fault bytes m d ≡ Some x → InDialogue bytes x
portion-is bytes x m None is has e = absurd (not_some x e)
portion-is bytes x m (Some d) is has e =
    let y = map-some (further (portion_place 0x6b m bytes)) (walk (external_line m) d) x e in
    record { message = m; content = d; inner = y.0; is_message = is; is_portion = has; not_met = walk-unmet (external_line m) d y.0 y.1; is_place = y.2 }

dialogue-is : (bytes : List ℕ) (x : Explained) → explained_by verdict.Dialogue bytes ≡ Some x → InDialogue bytes x
dialogue-is bytes x e =
    let r = in_message-some (λ m. dialogue_fault bytes m (dialogue_of m)) (message_of bytes) x e in
    portion-is bytes x r.0 (dialogue_of r.0) r.1 refl r.2

dialogue-told : (bytes : List ℕ) (x : Explained) → InDialogue bytes x → explained_by verdict.Dialogue bytes ≡ Some x
dialogue-told bytes x h =
    rw h.is_message (rw h.is_portion (rw (unmet-some (external_line h.message) h.content h.inner h.not_met) (ap some (sym h.is_place))))

-- ---- component

-- what is left behind the components is the faulty one
left-is : (cs : List ComponentParts) (f : FaultParts) (front rest : List ℕ) → SpellsComponents cs front → IsComponentFault rest f → left_of (front ++ rest) ≡ rest
left-is [] f front rest s h = ap (λ (w : List ℕ). left_of (w ++ rest)) s ∙ left-fault rest f (component_told rest f h)
left-is (c ∷ cs) f front rest s h =
    ap (λ (w : List ℕ). left_of (w ++ rest)) s.3
    ∙ (ap left_of (append_assoc s.0 s.1 rest)
    ∙ (left-next (s.0 ++ (s.1 ++ rest)) (s.1 ++ rest) c (component_again c s.0 (s.1 ++ rest) s.2)
    ∙ left-is cs f s.1 rest s.4 h))

first-left : (cs : List ComponentParts) (f : FaultParts) (content : List ℕ) (h : FirstFault cs (Some f) content) → (left_of content ≡ h.rest) × (length content - length (left_of content) ≡ length h.front)
first-left cs f content h =
    let left : left_of content ≡ h.rest = ap left_of h.is_content ∙ left-is cs f h.front h.rest h.spelled h.ends.1 in
    let len : length content ≡ length h.front + length h.rest = ap length h.is_content ∙ length-append h.front h.rest in
    (left, omega (arith, ap length left, len))

abbrev pub component_line : Line
component_line = line.Component component.ComponentType

pub faulty-is : (cs : List ComponentParts) (f : FaultParts) (content : List ℕ) (h : FirstFault cs (Some f) content) → faulty_component content ≡ option_map (further (length h.front)) (walk component_line h.rest)
faulty-is cs f content h =
    let l = first-left cs f content h in
    ap (λ (n : ℕ). option_map (further n) (walk component_line (left_of content))) l.1
    ∙ ap (λ (w : List ℕ). option_map (further (length h.front)) (walk component_line w)) l.0

component-is : (number : ℕ) (bytes : List ℕ) (x : Explained) → verdict_of bytes ≡ verdict.Component number → explained_by (verdict.Component number) bytes ≡ Some x → InComponent number bytes x
component-is number bytes x v e =
    let m = says-portions bytes (verdict.Component number) v tt in
    let read : component_fault bytes m.0 ≡ Some x = subst (λ (r : Result Message Verdict). in_message (component_fault bytes) r ≡ Some x) m.1 e in
    let c = faulty-component number (components_in m.0) (message-component m.0 number m.2) in
    let outer = map-some (further (portion_place 0x6c m.0 bytes)) (faulty_component (components_in m.0)) x read in
    let first = c.2 in
    let y = map-some (further (length first.front)) (walk component_line first.rest) outer.0 (sym (faulty-is c.0 c.1 (components_in m.0) first) ∙ outer.1) in
    record {
      message = m.0;
      before = c.0;
      fault = c.1;
      inner = y.0;
      is_message = m.1;
      is_first = first;
      is_number = c.3;
      not_met = walk-unmet component_line first.rest y.0 y.1;
      is_place = outer.2 ∙ ap (further (portion_place 0x6c m.0 bytes)) y.2;
    }

component-told : (number : ℕ) (bytes : List ℕ) (x : Explained) → InComponent number bytes x → explained_by (verdict.Component number) bytes ≡ Some x
component-told number bytes x h =
    let place = portion_place 0x6c h.message bytes in
    let inner : faulty_component (components_in h.message) ≡ Some (further (length h.is_first.front) h.inner) =
    faulty-is h.before h.fault (components_in h.message) h.is_first ∙ ap (option_map (further (length h.is_first.front))) (unmet-some component_line h.is_first.rest h.inner h.not_met) in
    rw h.is_message (ap (option_map (further place)) inner ∙ ap some (sym h.is_place))

-- ---- both sides

by-is : (v : Verdict) (bytes : List ℕ) (x : Explained) → verdict_of bytes ≡ v → explained_by v bytes ≡ Some x → FaultBy v bytes x
by-is verdict.TooLong bytes x v e = sym (some_is _ x e)
by-is verdict.UnknownType bytes x v e = walk-unmet (line.Message message.MessageType) bytes x e
by-is verdict.BadlyFormatted bytes x v e = format-is bytes x e
by-is verdict.Incorrect bytes x v e = walk-unmet (line.Message message.MessageType) bytes x e
by-is verdict.Dialogue bytes x v e = dialogue-is bytes x e
by-is (verdict.Component n) bytes x v e = component-is n bytes x v e
by-is verdict.Good bytes x v e = not_some x e

by-told : (v : Verdict) (bytes : List ℕ) (x : Explained) → FaultBy v bytes x → explained_by v bytes ≡ Some x
by-told verdict.TooLong bytes x h = ap some (sym h)
by-told verdict.UnknownType bytes x h = unmet-some (line.Message message.MessageType) bytes x h
by-told verdict.BadlyFormatted bytes x h = format-told bytes x h
by-told verdict.Incorrect bytes x h = unmet-some (line.Message message.MessageType) bytes x h
by-told verdict.Dialogue bytes x h = dialogue-told bytes x h
by-told (verdict.Component n) bytes x h = component-told n bytes x h
by-told verdict.Good bytes x h = absurd h

pub explained-is : (bytes : List ℕ) (x : Explained) → explained_at bytes ≡ Some x → FaultAt bytes x
unfolding explained_at
explained-is bytes x e = by-is (verdict_of bytes) bytes x refl e

pub explained-told : (bytes : List ℕ) (x : Explained) → FaultAt bytes x → explained_at bytes ≡ Some x
unfolding explained_at
explained-told bytes x h = by-told (verdict_of bytes) bytes x h

pub one_place : (bytes : List ℕ) (x y : Explained) → FaultAt bytes x → FaultAt bytes y → x ≡ y
one_place bytes x y h i = some_is x y (sym (explained-told bytes x h) ∙ explained-told bytes y i)

pub found-is : (bytes : List ℕ) (o : Option Explained) → o ≡ explained_at bytes → IfSome o (λ x. FaultAt bytes x)
found-is bytes None e = tt
found-is bytes (Some x) e = explained-is bytes x (sym e)
