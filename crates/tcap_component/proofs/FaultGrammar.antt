-- What a fault tells of an element: its structure and the identifier that it begins with.
use Rattle.std.proofs.Common.{◌≡◌, ℕ, ℤ, true, false, cond, List, [], ◌∷◌, ◌++◌, Option, Some, None, refl, sym, ap, ◌∙◌, inl, inr}
use Rattle.std.specs.Prelude.{is_ok}
use Rattle.std.specs.List.{list_all}
use Rattle.std.proofs.lemmas.Bool.{cases_Bool}
use Rattle.ber_core.specs.Tag.{is_constructor}
use Rattle.ber_core.specs.Element.{Parts, IsElement, joined}
use Rattle.ber_core.specs.ElementList.{IsList}
use Rattle.ber_core.specs.ElementReading.{element_at}
use Rattle.ber_core.specs.HeadReading.{head_at, tag_at}
use Rattle.ber_core.specs.ListReading.{items_of}
use Rattle.ber_core.specs.SequenceReading.{is_tag, tagged, first_whole}
use Rattle.ber_core.proofs.CallerLemmas.{some, some_is, not_some, by_option, by_result, test_some, is_tag-one, is_tag-is, element_takes, element_again, list_takes, list_again}
use Rattle.tcap_component.specs.declared.component.Form.{Form}
use Rattle.tcap_component.specs.declared.component.Form.TheVariants as form
use Rattle.tcap_component.specs.ComponentFault.{BeginsWithIdentifier, TellsIdentifier, IsResultTag, IsListed, SecondIsListed, IsStructured}
use Rattle.tcap_component.specs.ComponentReading.{front_identifier, form_at, is_result, listed_if_any, second_is_listed, is_structured}
use Rattle.tcap_component.proofs.PartGrammar.{identifier_takes, identifier_again}
use Rattle.tcap_component.proofs.ContentsGrammar.{form_tag, form_takes}

-- ---- the identifier

pub front-again : (e : Parts) (id : ℤ) → BeginsWithIdentifier e id → front_identifier e ≡ Some id
unfolding front_identifier tagged
front-again e id h =
    rw h.constructs (rw h.is_content (rw (element_again 32 h.first h.more h.is_element) (rw (is_tag-one 0x02 h.first.tag h.holds.0) (rw h.holds.1 (identifier_again id h.is_identifier)))))

front-takes : (e : Parts) (id : ℤ) → front_identifier e ≡ Some id → BeginsWithIdentifier e id
unfolding front_identifier tagged
front-takes e id h =
    let c = test_some (is_constructor e.tag) _ id h in
    let found = c.1 in
    elim (by_result (element_at 32 e.content)) [
      | inl f ↦ let found = found in let no : None ≡ some id = rw f.1 at found in absurd cc
      | inr r ↦ elim (cases_Bool (is_tag 0x02 r.0.0.tag)) [
        | inl y ↦
            let found = found in
            let t = element_takes 32 e.content r.0 r.1 in
            let i = identifier_takes r.0.0.content id (rw (r.1, y) at found) in
            record { first = r.0.0; more = r.0.1; constructs = c.0; is_element = t.0; is_content = t.1; holds = (is_tag-is 0x02 r.0.0.tag y, i.0); is_identifier = i.1 }
        | inr n ↦ let found = found in let no : None ≡ some id = rw (r.1, n) at found in absurd cc
      ]
    ]

tells_by : (e : Parts) (o : Option ℤ) → front_identifier e ≡ o → TellsIdentifier e o
tells_by e None h = λ id b. not_some id (sym h ∙ front-again e id b)
tells_by e (Some id) h = front-takes e id h

pub tells_takes : (e : Parts) → TellsIdentifier e (front_identifier e)
tells_takes e = tells_by e (front_identifier e) refl

pub tells_again : (e : Parts) (o : Option ℤ) → TellsIdentifier e o → front_identifier e ≡ o
tells_again e None h = elim (by_option (front_identifier e)) [
  | inl n ↦ n
  | inr i ↦ absurd (h i.0 (front-takes e i.0 i.1))
]
tells_again e (Some id) h = front-again e id h

-- ---- the structure

-- the content of a 30 that stands second
second_30 : List Parts → Option (List ℕ)
second_30 [] = None
second_30 (first ∷ []) = None
second_30 (first ∷ second ∷ more) = cond (is_tag 0x30 second.tag) (Some second.content) None

tagged_nothing : (tagged 0x30 []).0 ≡ None
unfolding tagged element_at head_at tag_at
tagged_nothing = refl

tagged_first : (e : Parts) (rest : List ℕ) → IsElement 32 e → (tagged 0x30 (e.whole ++ rest)).0 ≡ cond (is_tag 0x30 e.tag) (Some e.content) None
unfolding tagged
tagged_first e rest i = elim (cases_Bool (is_tag 0x30 e.tag)) [
  | inl y ↦ rw (element_again 32 e rest i) (rw y refl)
  | inr n ↦ rw (element_again 32 e rest i) (rw n refl)
]

whole_nothing : (first_whole []).1 ≡ []
unfolding first_whole element_at head_at tag_at
whole_nothing = refl

whole_first : (e : Parts) (rest : List ℕ) → IsElement 32 e → (first_whole (e.whole ++ rest)).1 ≡ rest
unfolding first_whole
whole_first e rest i = rw (element_again 32 e rest i) refl

second_at : (es : List Parts) (content : List ℕ) → IsList es content → (tagged 0x30 (first_whole content).1).0 ≡ second_30 es
unfolding second_30
second_at [] content l = rw (l.is_joined, whole_nothing) tagged_nothing
second_at (first ∷ []) content l = rw (l.is_joined, whole_first first [] l.each.0) tagged_nothing
second_at (first ∷ second ∷ more) content l = rw (l.is_joined, whole_first first (joined (second ∷ more)) l.each.0) (tagged_first second (joined more) l.each.1.0)

listed_takes : (bytes : List ℕ) → list_all is_ok (items_of bytes) ≡ true → IsListed bytes
listed_takes bytes h = let l = list_takes bytes h in (l.0, l.1)

second_takes : (es : List Parts) → listed_if_any (second_30 es) ≡ true → SecondIsListed es
unfolding second_30
second_takes [] h = tt
second_takes (first ∷ []) h = tt
second_takes (first ∷ second ∷ more) h = λ t. let h = h in listed_takes second.content (rw (is_tag-one 0x30 second.tag t) at h)

second_again : (es : List Parts) → SecondIsListed es → listed_if_any (second_30 es) ≡ true
unfolding second_30
second_again [] h = refl
second_again (first ∷ []) h = refl
second_again (first ∷ second ∷ more) h = elim (cases_Bool (is_tag 0x30 second.tag)) [
  | inl y ↦ let l = h (is_tag-is 0x30 second.tag y) in rw y (list_again l.0 second.content l.1)
  | inr n ↦ rw n refl
]

second-is : (es : List Parts) (content : List ℕ) → IsList es content → second_is_listed content ≡ listed_if_any (second_30 es)
unfolding second_is_listed
second-is es content l = ap listed_if_any (second_at es content l)

is_result_again : (t : List ℕ) (f : Form) → form_at t ≡ Some f → IsResultTag t → is_result f ≡ true
unfolding form_at
is_result_again t f e (inl h) = sym (ap is_result (some_is form.ResultLast f (sym (ap form_at h) ∙ e)))
is_result_again t f e (inr h) = sym (ap is_result (some_is form.ResultMore f (sym (ap form_at h) ∙ e)))

is_result_takes : (t : List ℕ) (f : Form) → t ≡ form_tag f ∷ [] → is_result f ≡ true → IsResultTag t
unfolding form_tag
is_result_takes t form.Invoke e h = absurd cc
is_result_takes t form.ResultLast e h = inl e
is_result_takes t form.ErrorBack e h = absurd cc
is_result_takes t form.RejectBack e h = absurd cc
is_result_takes t form.ResultMore e h = inr e

pub structured_takes : (e : Parts) (f : Form) → form_at e.tag ≡ Some f → is_structured f e.content ≡ true → IsStructured e
unfolding is_structured
structured_takes e f t h = elim (cases_Bool (list_all is_ok (items_of e.content))) [
  | inl y ↦
      let h = h in
      let l = list_takes e.content y in
      let inner : cond (is_result f) (second_is_listed e.content) true ≡ true = rw y at h in
      record {
        elements = l.0;
        is_list = l.1;
        second = λ r. let inner = inner in second_takes l.0 (sym (second-is l.0 e.content l.1) ∙ (rw (is_result_again e.tag f t r) at inner));
      }
  | inr n ↦ let h = h in let no : false ≡ true = rw n at h in absurd cc
]

pub structured_again : (e : Parts) (f : Form) → form_at e.tag ≡ Some f → IsStructured e → is_structured f e.content ≡ true
unfolding is_structured
structured_again e f t h = rw (list_again h.elements e.content h.is_list) (elim (cases_Bool (is_result f)) [
  | inl y ↦ rw y (second-is h.elements e.content h.is_list ∙ second_again h.elements (h.second (is_result_takes e.tag f (form_takes e.tag f t) y)))
  | inr n ↦ rw n refl
])
