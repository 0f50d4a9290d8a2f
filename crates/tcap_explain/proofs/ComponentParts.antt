-- Elements that stand in a table of components are the contents of a component.
use Rattle.std.proofs.Common.{◌≡◌, ℕ, ℤ, ◌<◌, ◌≤◌, true, false, leb, List, [], ◌∷◌, ◌++◌, length, Option, Some, None, refl, sym, ap, ◌∙◌, arith, inl, inr}
use Rattle.std.specs.Option.{option_map}
use Rattle.std.proofs.lemmas.Bool.{eqb-true}
use Rattle.std.proofs.lemmas.Bool.Decides.{nat_tests}
use Rattle.std.proofs.lemmas.List.{nil_from_length}
use Rattle.ber_core.specs.Element.{Parts, IsElement}
use Rattle.ber_core.specs.Integer.{signed_octet, integer_octets, integer_at}
use Rattle.ber_core.specs.Sequence.{SpellsSequence}
use Rattle.ber_core.specs.Sequence.Field.{must, may, any}
use Rattle.ber_core.proofs.CallerLemmas.{by_option, integer_takes, integer-octets, integer-fits, object_identifier_takes, octet_of-signed_octet, signed_octet-fits}
use Rattle.tcap_component.specs.declared.problem.Kind.{Kind}
use Rattle.tcap_component.specs.declared.problem.Kind.TheVariants as kind
use Rattle.tcap_component.specs.Problem.{ProblemParts, problem_tag, IsProblem}
use Rattle.tcap_component.specs.Component.{CodeParts, BodyParts, ComponentParts, component_tag, identifier, body_fields, fields, body_of, HoldsBody, IsIdentifier, IsIdentifierIfAny, IsCode, IsBody, InRange}
use Rattle.tcap_component.specs.Component.CodeParts.{local, global}
use Rattle.tcap_component.specs.Component.ComponentParts.{invoke, result_last, error_back, reject_back, result_more}
use Rattle.tcap_explain.specs.declared.contents.Contents.TheVariants as contents
use Rattle.tcap_explain.specs.declared.line.Line.{Line}
use Rattle.tcap_explain.specs.declared.line.Line.TheVariants as line
use Rattle.tcap_explain.specs.declared.line.ListLine.TheVariants as list
use Rattle.tcap_explain.specs.declared.line.ComponentLine.TheVariants as component
use Rattle.tcap_explain.specs.declared.table.Inside.TheVariants as inside
use Rattle.tcap_explain.specs.Choice.{leads, only, either}
use Rattle.tcap_explain.specs.Octets.{is_within, fits}
use Rattle.tcap_explain.specs.Table.{next, may_end}
use Rattle.tcap_explain.specs.Unmet.{Holds, Stands}
use Rattle.tcap_explain.specs.Unmet.Stands.{ends, begins}
use Rattle.tcap_explain.proofs.StandsLemmas.{octets-fit, elements-stand, either-some, only-takes, some-takes, without, with_it, no_elements, end-stands}

abbrev nothing_more : Line
nothing_more = line.List list.End

-- ---- contents octets

below : (n most : ℕ) → leb n most ≡ true → n ≤ most
below n most h = grind (arith, nat_tests)

pub within-one : (most : ℕ) (c : List ℕ) → is_within most c ≡ true → (n : ℕ) × (c ≡ n ∷ []) × (n ≤ most)
within-one most [] h = absurd cc
within-one most (n ∷ []) h = (n, refl, below n most h)
within-one most (n ∷ m ∷ rest) h = absurd cc

abbrev Identified : List ℕ → Type 0
Identified c = (id : ℤ) × (c ≡ identifier id) × IsIdentifier id

identified : (c : List ℕ) → fits contents.Identifier c ≡ true → Identified c
identified c h =
    let n = within-one 0xff c h in
    let lt : n.0 < 256 = omega (arith, n.2) in
    (signed_octet n.0, n.1 ∙ ap (λ (b : ℕ). b ∷ []) (sym (octet_of-signed_octet n.0 lt)), signed_octet-fits n.0 lt)

-- ---- codes and parameters

parameter : (bytes : List ℕ) → Stands (line.Component component.Parameter) bytes → (p : Option (List ℕ)) × SpellsSequence (any p ∷ []) bytes
unfolding next may_end
parameter bytes (ends l m) = (None, without (any None) [] [] refl no_elements)
parameter bytes (begins l t held e rest i n h s) =
    let k = some-takes held (inside.Octets contents.Any) nothing_more t e rest n h s in
    (Some e.whole, with_it (any (Some e.whole)) [] e rest i refl (end-stands rest k.1))

abbrev Coded : List ℕ → Type 0
Coded bytes = (b : BodyParts) × SpellsSequence (body_fields b) bytes × IsCode b.code

abbrev body : CodeParts → Option (List ℕ) → BodyParts
body code parameter = record { code = code; parameter = parameter }

local-code : (e : Parts) (rest : List ℕ) → IsElement 32 e → e.tag ≡ 0x02 ∷ [] → fits contents.LocalCode e.content ≡ true → Stands (line.Component component.Parameter) rest → Coded (e.whole ++ rest)
local-code e rest i t f s = elim (by_option (integer_at e.content)) [
  | inl n ↦ let f = f in let no : false ≡ true = rw n at f in absurd cc
  | inr z ↦
      let p = parameter rest s in
      let is = integer_takes e.content z.0 z.1 in
      (body (local z.0) p.0, with_it (must 0x02 (integer_octets z.0)) (any p.0 ∷ []) e rest i (t, integer-octets z.0 e.content is) p.1, integer-fits z.0 e.content is)
]

global-code : (e : Parts) (rest : List ℕ) → IsElement 32 e → e.tag ≡ 0x06 ∷ [] → fits contents.ObjectIdentifier e.content ≡ true → Stands (line.Component component.Parameter) rest → Coded (e.whole ++ rest)
global-code e rest i t f s =
    let p = parameter rest s in
    (body (global e.content) p.0, with_it (must 0x06 e.content) (any p.0 ∷ []) e rest i (t, refl) p.1, object_identifier_takes e.content f)

abbrev parameter_line : Line
parameter_line = line.Component component.Parameter

abbrev code_line : Line
code_line = line.Component component.Code

code : (bytes : List ℕ) → Stands code_line bytes → Coded bytes
unfolding next may_end
code bytes (ends l m) = absurd cc
code bytes (begins l t held e rest i n h s) =
    elim (either-some (only 0x02 e.tag (inside.Octets contents.LocalCode) parameter_line) (only 0x06 e.tag (inside.Octets contents.ObjectIdentifier) parameter_line) (leads held t) n) [
      | inl n ↦ let k = only-takes 0x02 held (inside.Octets contents.LocalCode) parameter_line t e rest n h s in local-code e rest i k.0 (octets-fit contents.LocalCode e.content k.1) k.2
      | inr n ↦ let k = only-takes 0x06 held (inside.Octets contents.ObjectIdentifier) parameter_line t e rest n h s in global-code e rest i k.0 (octets-fit contents.ObjectIdentifier e.content k.1) k.2
    ]

abbrev Linked : List ℕ → Type 0
Linked bytes = (l : Option ℤ) × (b : BodyParts) × SpellsSequence (may 0x80 (option_map identifier l) ∷ body_fields b) bytes × IsIdentifierIfAny l × IsCode b.code

unlinked : (bytes : List ℕ) → Coded bytes → Linked bytes
unlinked bytes c = (None, c.0, without (may 0x80 None) (body_fields c.0) bytes refl c.1, tt, c.2)

linked : (bytes : List ℕ) → Stands (line.Component component.LinkedOrCode) bytes → Linked bytes
unfolding next may_end
linked bytes (ends l m) = absurd cc
linked bytes (begins l t held e rest i n h s) =
    let third = only 0x06 e.tag (inside.Octets contents.ObjectIdentifier) parameter_line in
    let second = either (only 0x02 e.tag (inside.Octets contents.LocalCode) parameter_line) third in
    elim (either-some (only 0x80 e.tag (inside.Octets contents.Identifier) code_line) second (leads held t) n) [
      | inl n ↦
          let k = only-takes 0x80 held (inside.Octets contents.Identifier) code_line t e rest n h s in
          let id = identified e.content (octets-fit contents.Identifier e.content k.1) in
          let c = code rest k.2 in
          (Some id.0, c.0, with_it (may 0x80 (Some (identifier id.0))) (body_fields c.0) e rest i (k.0, id.1) c.1, id.2, c.2)
      | inr n ↦ elim (either-some (only 0x02 e.tag (inside.Octets contents.LocalCode) parameter_line) third (leads held t) n) [
        | inl n ↦ let k = only-takes 0x02 held (inside.Octets contents.LocalCode) parameter_line t e rest n h s in unlinked (e.whole ++ rest) (local-code e rest i k.0 (octets-fit contents.LocalCode e.content k.1) k.2)
        | inr n ↦ let k = only-takes 0x06 held (inside.Octets contents.ObjectIdentifier) parameter_line t e rest n h s in unlinked (e.whole ++ rest) (global-code e rest i k.0 (octets-fit contents.ObjectIdentifier e.content k.1) k.2)
      ]
    ]

-- ---- the contents of components

abbrev pub HasContents : ℕ → List ℕ → Type 0
HasContents tag content = (c : ComponentParts) × (component_tag c ≡ tag) × (inner : Option (List ℕ)) × SpellsSequence (fields c inner) content × HoldsBody (body_of c) inner × InRange c

pub invoke-contents : (bytes : List ℕ) → Stands (line.Component component.InvokeId) bytes → HasContents 0xa1 bytes
unfolding next may_end
invoke-contents bytes (ends l m) = absurd cc
invoke-contents bytes (begins l t held e rest i n h s) =
    let k = only-takes 0x02 held (inside.Octets contents.Identifier) (line.Component component.LinkedOrCode) t e rest n h s in
    let id = identified e.content (octets-fit contents.Identifier e.content k.1) in
    let r = linked rest k.2 in
    (invoke id.0 r.0 r.1.code r.1.parameter, refl, None, with_it (must 0x02 (identifier id.0)) (may 0x80 (option_map identifier r.0) ∷ body_fields r.1) e rest i (k.0, id.1) r.2, tt, (id.2, r.3, r.4))

pub error-contents : (bytes : List ℕ) → Stands (line.Component component.ErrorId) bytes → HasContents 0xa3 bytes
unfolding next may_end
error-contents bytes (ends l m) = absurd cc
error-contents bytes (begins l t held e rest i n h s) =
    let k = only-takes 0x02 held (inside.Octets contents.Identifier) code_line t e rest n h s in
    let id = identified e.content (octets-fit contents.Identifier e.content k.1) in
    let c = code rest k.2 in
    (error_back id.0 c.0.code c.0.parameter, refl, None, with_it (must 0x02 (identifier id.0)) (body_fields c.0) e rest i (k.0, id.1) c.1, tt, (id.2, c.2))

abbrev Bodied : List ℕ → Type 0
Bodied bytes = (inner : Option (List ℕ)) × (b : Option BodyParts) × SpellsSequence (may 0x30 inner ∷ []) bytes × HoldsBody b inner × IsBody b

bodied : (bytes : List ℕ) → Stands (line.Component component.ResultBody) bytes → Bodied bytes
unfolding next may_end
bodied bytes (ends l m) = (None, None, without (may 0x30 None) [] [] refl no_elements, tt, tt)
bodied bytes (begins l t held e rest i n h s) =
    let k = only-takes 0x30 held (inside.Elements code_line) nothing_more t e rest n h s in
    let c = code e.content (elements-stand code_line e.content k.1) in
    (Some e.content, Some c.0, with_it (may 0x30 (Some e.content)) [] e rest i (k.0, refl) (end-stands rest k.2), c.1, c.2)

abbrev Answered : List ℕ → Type 0
Answered bytes = (id : ℤ) × (inner : Option (List ℕ)) × (b : Option BodyParts) × SpellsSequence (must 0x02 (identifier id) ∷ may 0x30 inner ∷ []) bytes × HoldsBody b inner × IsIdentifier id × IsBody b

answered : (bytes : List ℕ) → Stands (line.Component component.ResultId) bytes → Answered bytes
unfolding next may_end
answered bytes (ends l m) = absurd cc
answered bytes (begins l t held e rest i n h s) =
    let k = only-takes 0x02 held (inside.Octets contents.Identifier) (line.Component component.ResultBody) t e rest n h s in
    let id = identified e.content (octets-fit contents.Identifier e.content k.1) in
    let r = bodied rest k.2 in
    (id.0, r.0, r.1, with_it (must 0x02 (identifier id.0)) (may 0x30 r.0 ∷ []) e rest i (k.0, id.1) r.2, r.3, id.2, r.4)

pub last-contents : (bytes : List ℕ) → Stands (line.Component component.ResultId) bytes → HasContents 0xa2 bytes
last-contents bytes s = let r = answered bytes s in (result_last r.0 r.2, refl, r.1, r.3, r.4, (r.5, r.6))

pub more-contents : (bytes : List ℕ) → Stands (line.Component component.ResultId) bytes → HasContents 0xa7 bytes
more-contents bytes s = let r = answered bytes s in (result_more r.0 r.2, refl, r.1, r.3, r.4, (r.5, r.6))

abbrev Rejects : List ℕ → Type 0
Rejects bytes = (p : ProblemParts) × SpellsSequence (must (problem_tag p.kind) (p.code ∷ []) ∷ []) bytes × IsProblem p

problem-of : (k : Kind) (e : Parts) (rest : List ℕ) → IsElement 32 e → e.tag ≡ problem_tag k ∷ [] → Holds (inside.Octets contents.ProblemCode) e.content → Stands nothing_more rest → Rejects (e.whole ++ rest)
problem-of k e rest i t h s =
    let c = within-one 0x7f e.content (octets-fit contents.ProblemCode e.content h) in
    (record { kind = k; code = c.0 }, with_it (must (problem_tag k) (c.0 ∷ [])) [] e rest i (t, c.1) (end-stands rest s), c.2)

problem : (bytes : List ℕ) → Stands (line.Component component.Problem) bytes → Rejects bytes
unfolding next may_end
problem bytes (ends l m) = absurd cc
problem bytes (begins l t held e rest i n h s) =
    let code = inside.Octets contents.ProblemCode in
    let fourth = only 0x83 e.tag code nothing_more in
    let third = either (only 0x82 e.tag code nothing_more) fourth in
    let second = either (only 0x81 e.tag code nothing_more) third in
    elim (either-some (only 0x80 e.tag code nothing_more) second (leads held t) n) [
      | inl n ↦ let k = only-takes 0x80 held code nothing_more t e rest n h s in problem-of kind.General e rest i k.0 k.1 k.2
      | inr n ↦ elim (either-some (only 0x81 e.tag code nothing_more) third (leads held t) n) [
        | inl n ↦ let k = only-takes 0x81 held code nothing_more t e rest n h s in problem-of kind.Invoke e rest i k.0 k.1 k.2
        | inr n ↦ elim (either-some (only 0x82 e.tag code nothing_more) fourth (leads held t) n) [
          | inl n ↦ let k = only-takes 0x82 held code nothing_more t e rest n h s in problem-of kind.Result e rest i k.0 k.1 k.2
          | inr n ↦ let k = only-takes 0x83 held code nothing_more t e rest n h s in problem-of kind.Error e rest i k.0 k.1 k.2
        ]
      ]
    ]

pub reject-contents : (bytes : List ℕ) → Stands (line.Component component.RejectId) bytes → HasContents 0xa4 bytes
unfolding next may_end
reject-contents bytes (ends l m) = absurd cc
reject-contents bytes (begins l t held e rest i n h s) =
    let problem_line = line.Component component.Problem in
    elim (either-some (only 0x02 e.tag (inside.Octets contents.Identifier) problem_line) (only 0x05 e.tag (inside.Octets contents.Null) problem_line) (leads held t) n) [
      | inl n ↦
          let k = only-takes 0x02 held (inside.Octets contents.Identifier) problem_line t e rest n h s in
          let id = identified e.content (octets-fit contents.Identifier e.content k.1) in
          let p = problem rest k.2 in
          (reject_back (Some id.0) p.0, refl, None, with_it (must 0x02 (identifier id.0)) (must (problem_tag p.0.kind) (p.0.code ∷ []) ∷ []) e rest i (k.0, id.1) p.1, tt, (id.2, p.2))
      | inr n ↦
          let k = only-takes 0x05 held (inside.Octets contents.Null) problem_line t e rest n h s in
          let none = nil_from_length e.content (eqb-true (length e.content) 0 (octets-fit contents.Null e.content k.1)) in
          let p = problem rest k.2 in
          (reject_back None p.0, refl, None, with_it (must 0x05 []) (must (problem_tag p.0.kind) (p.0.code ∷ []) ∷ []) e rest i (k.0, none) p.1, tt, (tt, p.2))
    ]
