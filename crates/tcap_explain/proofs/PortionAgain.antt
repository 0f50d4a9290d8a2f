-- A dialogue portion stands in the tables.
use Rattle.std.proofs.Common.{◌≡◌, ◌≢◌, ℕ, true, false, List, [], ◌∷◌, Some, Ok, refl, sym, ap, subst, ◌∙◌, inl, inr}
use Rattle.std.specs.Str.{bytes_eq}
use Rattle.std.proofs.lemmas.Bool.{cases_Bool}
use Rattle.std.proofs.lemmas.Slice.Eq.{bytes_eq-Decides}
use Rattle.ber_core.specs.Element.{Parts, joined}
use Rattle.ber_core.specs.ObjectIdentifier.{is_object_identifier, subidentifiers_at}
use Rattle.tcap_words.specs.Verdict.{is_known}
use Rattle.ber_core.specs.Sequence.{Field, InOrder, IsOnly}
use Rattle.ber_core.specs.Sequence.Field.{must}
use Rattle.ber_core.proofs.CallerLemmas.{object_identifier_again}
use Rattle.tcap_pdu.specs.DialogueSpelling.{PduValue, SpellsRequest, SpellsResponse, SpellsAbort, SpellsExternal, IsForeign, SpellsDialogue, structured_syntax, unstructured_syntax}
use Rattle.tcap_pdu.specs.DialogueSpelling.PduValue.{aarq, audt, aare, abrt, foreign}
use Rattle.tcap_explain.specs.declared.contents.Contents.{Contents}
use Rattle.tcap_explain.specs.declared.contents.Contents.TheVariants as contents
use Rattle.tcap_explain.specs.declared.line.Line.{Line}
use Rattle.tcap_explain.specs.declared.line.Line.TheVariants as line
use Rattle.tcap_explain.specs.declared.line.ListLine.TheVariants as list
use Rattle.tcap_explain.specs.declared.line.PortionLine.TheVariants as portion
use Rattle.tcap_explain.specs.declared.line.PduLine.TheVariants as pdu
use Rattle.tcap_explain.specs.declared.table.Inside.TheVariants as inside
use Rattle.tcap_explain.specs.Choice.{leads}
use Rattle.tcap_explain.specs.Octets.{fits}
use Rattle.tcap_explain.specs.PortionTable.{line_behind}
use Rattle.tcap_explain.specs.Table.{next}
use Rattle.tcap_explain.specs.Unmet.{Stands}
use Rattle.tcap_explain.proofs.ComponentAgain.{elements-again}
use Rattle.tcap_explain.proofs.MessageAgain.{All, nothing_more, taken, end-again, fitting}
use Rattle.tcap_explain.proofs.PduAgain.{spelled, inside-is, request-stands, response-stands, abort-stands}

-- what an element with a tag holds at a line
abbrev Has : Line → ℕ → Line → Type 0
Has l tag inner = (octets content : List ℕ) → octets ≡ tag ∷ [] → next l octets content ≡ Some (leads (inside.Elements inner) nothing_more)

held : (l inner : Line) (tag : ℕ) (c : List ℕ) (es : List Parts) → All es → Has l tag inner → Stands inner c → InOrder (must tag c ∷ []) es → Stands l (joined es)
unfolding InOrder
held l inner tag c [] a has s h = absurd h.0
held l inner tag c (e ∷ es) a has s (inl h) = taken l nothing_more (inside.Elements inner) e es a.0 (has e.tag e.content h.0.0) (inside-is inner e.content c h.0.1 s) (end-again es h.1)
held l inner tag c (e ∷ es) a has s (inr h) = absurd h.0

one-again : (l inner : Line) (tag : ℕ) (c bytes : List ℕ) → Has l tag inner → Stands inner c → IsOnly tag c bytes → Stands l bytes
one-again l inner tag c bytes has s o = spelled l (must tag c ∷ []) bytes (λ es a h. held l inner tag c es a has s h) o

-- ---- what an EXTERNAL holds

abbrev syntax_line : Line
syntax_line = line.Portion portion.DialogueSyntax

abbrev any_line : Line
any_line = line.Portion portion.AnySyntax

-- a line that has the abstract syntax, and asks this of its octets
abbrev HasSyntax : Line → Contents → Type 0
HasSyntax l k = (octets content : List ℕ) → octets ≡ 0x06 ∷ [] → next l octets content ≡ Some (leads (inside.Octets k) (line_behind content))

syntaxes : (l behind inner : Line) (k : Contents) (syntax single : List ℕ) (es : List Parts) → All es → HasSyntax l k → fits k syntax ≡ true → line_behind syntax ≡ behind → Has behind 0xa0 inner → Stands inner single → InOrder (must 0x06 syntax ∷ must 0xa0 single ∷ []) es → Stands l (joined es)
unfolding InOrder
syntaxes l behind inner k syntax single [] a has f same next_has s h = absurd h.0
syntaxes l behind inner k syntax single (e ∷ es) a has f same next_has s (inl h) =
    let rest = held behind inner 0xa0 single es a.1 next_has s h.1 in
    let there = subst (λ (b : Line). Stands b (joined es)) (sym (ap line_behind h.0.1 ∙ same)) rest in
    taken l (line_behind e.content) (inside.Octets k) e es a.0 (has e.tag e.content h.0.0) (fitting k e.content syntax h.0.1 f) there
syntaxes l behind inner k syntax single (e ∷ es) a has f same next_has s (inr h) = absurd h.0

dialogue-has : HasSyntax syntax_line contents.DialogueSyntax
unfolding next
dialogue-has octets content t = rw t refl

any-has : HasSyntax any_line contents.ObjectIdentifier
unfolding next
any-has octets content t = rw t refl

-- ---- dialogue PDUs

abbrev structured_line : Line
structured_line = line.Portion portion.Structured

abbrev unstructured_line : Line
unstructured_line = line.Portion portion.Unstructured

abbrev structured_pdu : Line
structured_pdu = line.Portion portion.StructuredPdu

abbrev unstructured_pdu : Line
unstructured_pdu = line.Portion portion.UnstructuredPdu

structured-has : Has structured_line 0xa0 structured_pdu
unfolding next
structured-has octets content t = rw t refl

unstructured-has : Has unstructured_line 0xa0 unstructured_pdu
unfolding next
unstructured-has octets content t = rw t refl

external-has : Has (line.Portion portion.External) 0x28 syntax_line
unfolding next
external-has octets content t = rw t refl

abort-has : Has (line.Portion portion.AbortExternal) 0x28 any_line
unfolding next
abort-has octets content t = rw t refl

request-has : Has structured_pdu 0x60 (line.Pdu pdu.RequestVersion)
unfolding next
request-has octets content t = rw t refl

response-has : Has structured_pdu 0x61 (line.Pdu pdu.ResponseVersion)
unfolding next
response-has octets content t = rw t refl

source-has : Has structured_pdu 0x64 (line.Pdu pdu.AbortSource)
unfolding next
source-has octets content t = rw t refl

audt-has : Has unstructured_pdu 0x60 (line.Pdu pdu.RequestVersion)
unfolding next
audt-has octets content t = rw t refl

structured-object : is_object_identifier structured_syntax ≡ true
unfolding is_object_identifier subidentifiers_at
structured-object = refl

unstructured-object : is_object_identifier unstructured_syntax ≡ true
unfolding is_object_identifier subidentifiers_at
unstructured-object = refl

-- both lines of an EXTERNAL have what has one of the two syntaxes
abbrev InBoth : List ℕ → Type 0
InBoth bytes = Stands (line.Portion portion.External) bytes × Stands (line.Portion portion.AbortExternal) bytes

abbrev SequenceOf : List ℕ → List ℕ → List Field
SequenceOf syntax single = must 0x06 syntax ∷ must 0xa0 single ∷ []

structured-again : (tag : ℕ) (inner : Line) (Spells : List ℕ → Type 0) (bytes : List ℕ) → Has structured_pdu tag inner → ((c : List ℕ) → Spells c → Stands inner c) → SpellsExternal structured_syntax tag Spells bytes → InBoth bytes
structured-again tag inner Spells bytes has stands x =
    let single = one-again structured_pdu inner tag x.content x.single has (stands x.content x.is_content) x.is_pdu in
    let known = spelled syntax_line (SequenceOf structured_syntax x.single) x.external (λ es a h. syntaxes syntax_line structured_line structured_pdu contents.DialogueSyntax structured_syntax x.single es a dialogue-has refl refl structured-has single h) x.in_sequence in
    let any = spelled any_line (SequenceOf structured_syntax x.single) x.external (λ es a h. syntaxes any_line structured_line structured_pdu contents.ObjectIdentifier structured_syntax x.single es a any-has structured-object refl structured-has single h) x.in_sequence in
    (one-again (line.Portion portion.External) syntax_line 0x28 x.external bytes external-has known x.is_external, one-again (line.Portion portion.AbortExternal) any_line 0x28 x.external bytes abort-has any x.is_external)

unstructured-again : (tag : ℕ) (inner : Line) (Spells : List ℕ → Type 0) (bytes : List ℕ) → Has unstructured_pdu tag inner → ((c : List ℕ) → Spells c → Stands inner c) → SpellsExternal unstructured_syntax tag Spells bytes → InBoth bytes
unstructured-again tag inner Spells bytes has stands x =
    let single = one-again unstructured_pdu inner tag x.content x.single has (stands x.content x.is_content) x.is_pdu in
    let known = spelled syntax_line (SequenceOf unstructured_syntax x.single) x.external (λ es a h. syntaxes syntax_line unstructured_line unstructured_pdu contents.DialogueSyntax unstructured_syntax x.single es a dialogue-has refl refl unstructured-has single h) x.in_sequence in
    let any = spelled any_line (SequenceOf unstructured_syntax x.single) x.external (λ es a h. syntaxes any_line unstructured_line unstructured_pdu contents.ObjectIdentifier unstructured_syntax x.single es a any-has unstructured-object refl unstructured-has single h) x.in_sequence in
    (one-again (line.Portion portion.External) syntax_line 0x28 x.external bytes external-has known x.is_external, one-again (line.Portion portion.AbortExternal) any_line 0x28 x.external bytes abort-has any x.is_external)

-- ---- foreign

other_bytes : (xs ys : List ℕ) → xs ≢ ys → bytes_eq xs ys ≡ false
other_bytes xs ys ne = elim (cases_Bool (bytes_eq xs ys)) [
  | inl y ↦ absurd (ne ((bytes_eq-Decides xs ys).0 y))
  | inr n ↦ n
]

foreign-behind : (syntax : List ℕ) → syntax ≢ structured_syntax → syntax ≢ unstructured_syntax → line_behind syntax ≡ line.List list.Elements
foreign-behind syntax a b = rw (other_bytes syntax structured_syntax a, other_bytes syntax unstructured_syntax b) refl

foreign-again : (bytes : List ℕ) → IsForeign bytes → Stands (line.Portion portion.AbortExternal) bytes
foreign-again bytes x =
    let rest = elements-again x.others x.is_list.each.1 in
    let same = ap line_behind x.is_syntax.1 ∙ foreign-behind x.syntax x.not_structured x.not_unstructured in
    let behind = subst (λ (l : Line). Stands l (joined x.others)) (sym same) rest in
    let content = taken any_line (line_behind x.first.content) (inside.Octets contents.ObjectIdentifier) x.first x.others x.is_list.each.0 (any-has x.first.tag x.first.content x.is_syntax.0) (fitting contents.ObjectIdentifier x.first.content x.syntax x.is_syntax.1 (object_identifier_again x.syntax x.is_identifier)) behind in
    one-again (line.Portion portion.AbortExternal) any_line 0x28 x.content bytes abort-has (subst (Stands any_line) (sym x.is_list.is_joined) content) x.is_external

-- ---- the portion

pub portion_again : (p : PduValue) (bytes : List ℕ) → SpellsDialogue p bytes → Stands (line.Portion portion.AbortExternal) bytes
unfolding SpellsDialogue
portion_again (aarq v c i) bytes h = (structured-again 0x60 (line.Pdu pdu.RequestVersion) (SpellsRequest v c i) bytes request-has (λ w r. request-stands v c i w r) h).1
portion_again (audt v c i) bytes h = (unstructured-again 0x60 (line.Pdu pdu.RequestVersion) (SpellsRequest v c i) bytes audt-has (λ w r. request-stands v c i w r) h).1
portion_again (aare v c a d i) bytes h = (structured-again 0x61 (line.Pdu pdu.ResponseVersion) (SpellsResponse v c a d i) bytes response-has (λ w r. response-stands v c a d i w r) h).1
portion_again (abrt b i) bytes h = (structured-again 0x64 (line.Pdu pdu.AbortSource) (SpellsAbort b i) bytes source-has (λ w r. abort-stands b i w r) h).1
portion_again (foreign x) bytes h = subst (Stands (line.Portion portion.AbortExternal)) (sym h.0) (foreign-again x h.1)

pub known_again : (p : PduValue) (bytes : List ℕ) → is_known (Ok p) ≡ true → SpellsDialogue p bytes → Stands (line.Portion portion.External) bytes
unfolding SpellsDialogue
known_again (aarq v c i) bytes k h = (structured-again 0x60 (line.Pdu pdu.RequestVersion) (SpellsRequest v c i) bytes request-has (λ w r. request-stands v c i w r) h).0
known_again (audt v c i) bytes k h = (unstructured-again 0x60 (line.Pdu pdu.RequestVersion) (SpellsRequest v c i) bytes audt-has (λ w r. request-stands v c i w r) h).0
known_again (aare v c a d i) bytes k h = (structured-again 0x61 (line.Pdu pdu.ResponseVersion) (SpellsResponse v c a d i) bytes response-has (λ w r. response-stands v c a d i w r) h).0
known_again (abrt b i) bytes k h = (structured-again 0x64 (line.Pdu pdu.AbortSource) (SpellsAbort b i) bytes source-has (λ w r. abort-stands b i w r) h).0
known_again (foreign x) bytes k h = absurd cc
