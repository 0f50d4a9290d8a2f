-- A property of what each component of a message tells, shown once for all components.
use Rattle.std.proofs.Common.{◌≡◌, ℕ, List, [], ◌∷◌, ◌++◌, map, Option, Some, None, Ok, Err, refl, sym, subst, ◌∙◌, append_assoc}
use Rattle.std.specs.List.{AllByRecursion}
use Rattle.tcap_component.specs.Component.{ComponentParts, InRange}
use Rattle.tcap_component.specs.ComponentFault.{FaultParts, IsComponentFault}
use Rattle.tcap_component.specs.ComponentList.{FirstFault, SpellsComponents, EndsIn, items}
use Rattle.tcap_component.specs.ComponentReading.{components_of}
use Rattle.tcap_component.proofs.CallerLemmas.{first_fault_is}
use Rattle.tcap_model.specs.Histories.Pair.{Past}
use Rattle.tcap_model.specs.Procedures.ComponentHandling.{Item, Handled, subject_of, handled, told_of, uni_told}
use Rattle.tcap_model.specs.Replies.Queue.{handled_after, handled_in}
use Rattle.tcap_model.specs.Words.Output.{Output}
use Rattle.tcap_model.specs.Invocations.SentThere.{sent_there}

-- ---- lists

pub each-map : {X Y : Type 0} (P : Y → Type 0) (f : X → Y) → ((x : X) → P (f x)) → (xs : List X)
    → AllByRecursion P (map f xs)
each-map P f holds [] = tt
each-map P f holds (x ∷ xs) = (holds x, each-map P f holds xs)

-- ---- what is known of a component that is read

-- it stands among the components before the first fault, and its numbers are in range
pub record ReadAt (content : List ℕ) (c : ComponentParts) : Type 0 where
  pub earlier : List ComponentParts
  pub later : List ComponentParts
  pub fault : Option FaultParts
  pub first : FirstFault (earlier ++ c ∷ later) fault content
  pub in_range : InRange c

-- a component that is read in a content, or the fault that ends it
abbrev pub IsReadIn : List ℕ → Item → Type 0
IsReadIn content (Ok c) = ReadAt content c
IsReadIn content (Err f) = (rest : List ℕ) × IsComponentFault rest f

module _ (content : List ℕ) (all : List ComponentParts) (fault : Option FaultParts)
    (first : FirstFault all fault content) where
  items-read : (earlier cs : List ComponentParts) (front rest : List ℕ) → all ≡ earlier ++ cs
      → SpellsComponents cs front → EndsIn fault rest
      → AllByRecursion (IsReadIn content) (items cs fault)
  items-read earlier [] front rest is spelled ends = last fault ends
    where
      last : (f : Option FaultParts) → EndsIn f rest → AllByRecursion (IsReadIn content) (items [] f)
      last None ends = tt
      last (Some f) ends = ((rest, ends.1), tt)
  items-read earlier (c ∷ cs) front rest is spelled ends =
      let next = spelled.2 in (
        record {
          earlier = earlier;
          later = cs;
          fault = fault;
          first = subst (λ (all : List ComponentParts). FirstFault all fault content) is first;
          in_range = next.is_component.in_range;
        },
        items-read (earlier ++ c ∷ []) cs spelled.1 rest (is ∙ sym (append_assoc earlier (c ∷ []) cs)) spelled.4 ends,
      )

pub all-read : (content : List ℕ) → AllByRecursion (IsReadIn content) (components_of content)
all-read content =
    let t = first_fault_is content in
    let first = t.2 in
    subst (λ (is : List Item). AllByRecursion (IsReadIn content) is) (sym t.3)
    (items-read content t.0 t.1 first [] t.0 first.front first.rest refl first.spelled first.ends)

-- ---- all components of a message

module _ (dialogue : ℕ) (past : Past) (content : List ℕ) where
  -- the property, of each component with what stands before it
  abbrev pub OfEach : (Handled → Type 0) → Type 0
  OfEach P = (earlier : List Item) (item : Item) → IsReadIn content item
      → P (handled (Some dialogue) (sent_there dialogue past earlier (subject_of item)) item)

  pub each-handled : (P : Handled → Type 0) → OfEach P → AllByRecursion P (handled_in dialogue past content)
  each-handled P holds = go [] (components_of content) (all-read content)
    where
      go : (earlier items : List Item) → AllByRecursion (IsReadIn content) items
          → AllByRecursion P (handled_after dialogue past earlier items)
      go earlier [] read = tt
      go earlier (item ∷ items) read = (holds earlier item read.0, go (earlier ++ item ∷ []) items read.1)

  pub each-told : (P : Output → Type 0) → OfEach (λ (h : Handled). P h.told)
      → AllByRecursion P (told_of (handled_in dialogue past content))
  each-told P holds = go (handled_in dialogue past content) (each-handled (λ (h : Handled). P h.told) holds)
    where
      go : (components : List Handled) → AllByRecursion (λ (h : Handled). P h.told) components
          → AllByRecursion P (told_of components)
      go [] all = tt
      go (h ∷ components) all = (all.0, go components all.1)

-- the same of a Unidirectional
pub each-uni : (P : Output → Type 0) (content : List ℕ)
    → ((item : Item) → IsReadIn content item → P (handled None None item).told)
    → AllByRecursion P (uni_told (components_of content))
each-uni P content holds = go (components_of content) (all-read content)
  where
    go : (items : List Item) → AllByRecursion (IsReadIn content) items → AllByRecursion P (uni_told items)
    go [] read = tt
    go (item ∷ items) read = (holds item read.0, go items read.1)
