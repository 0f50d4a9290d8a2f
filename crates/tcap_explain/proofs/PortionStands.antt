-- Elements that stand in a table of the dialogue portion are a dialogue PDU.
use Rattle.std.proofs.Common.{◌≡◌, ◌≢◌, ℕ, true, false, List, [], ◌∷◌, ◌++◌, Ok, refl, sym, ◌∙◌, inl, inr}
use Rattle.std.specs.Str.{bytes_eq}
use Rattle.std.proofs.lemmas.Bool.{cases_Bool}
use Rattle.std.proofs.lemmas.Slice.Eq.{bytes_eq-Decides}
use Rattle.ber_core.specs.Element.{Parts, IsElement}
use Rattle.ber_core.specs.Sequence.{SpellsSequence, IsOnly}
use Rattle.ber_core.specs.Sequence.Field.{must}
use Rattle.ber_core.proofs.CallerLemmas.{list_from, object_identifier_takes}
use Rattle.tcap_pdu.specs.DialogueSpelling.{PduValue, structured_syntax, unstructured_syntax, IsForeign, SpellsDialogue}
use Rattle.tcap_pdu.specs.DialogueSpelling.PduValue.{aarq, audt, aare, abrt, foreign}
use Rattle.tcap_words.specs.Verdict.{is_known}
use Rattle.tcap_explain.specs.declared.contents.Contents.TheVariants as contents
use Rattle.tcap_explain.specs.declared.line.Line.{Line}
use Rattle.tcap_explain.specs.declared.line.Line.TheVariants as line
use Rattle.tcap_explain.specs.declared.line.ListLine.TheVariants as list
use Rattle.tcap_explain.specs.declared.line.PortionLine.TheVariants as portion
use Rattle.tcap_explain.specs.declared.line.PduLine.TheVariants as pdu
use Rattle.tcap_explain.specs.declared.table.Inside.TheVariants as inside
use Rattle.tcap_explain.specs.Choice.{leads, only, either}
use Rattle.tcap_explain.specs.Octets.{fits}
use Rattle.tcap_explain.specs.PortionTable.{line_behind}
use Rattle.tcap_explain.specs.Table.{next, may_end}
use Rattle.tcap_explain.specs.Unmet.{Stands}
use Rattle.tcap_explain.specs.Unmet.Stands.{ends, begins}
use Rattle.tcap_explain.proofs.PduStands.{request, response, aborted}
use Rattle.tcap_explain.proofs.StandsLemmas.{octets-fit, elements-stand, either-some, only-takes, with_it, end-stands, elements-listed}

abbrev nothing_more : Line
nothing_more = line.List list.End

-- ---- PDUs

abbrev IsDialoguePdu : PduValue → Type 0
IsDialoguePdu p = is_known (Ok p) ≡ true

-- what a 28 with this content spells, whatever its length octets are
abbrev Spelled : (PduValue → Type 0) → List ℕ → Type 0
Spelled Kind external = (p : PduValue) × Kind p × ((bytes : List ℕ) → IsOnly 0x28 external bytes → SpellsDialogue p bytes)

-- the PDU that A0 holds, behind a syntax
abbrev Held : List ℕ → List ℕ → Type 0
Held syntax single = (p : PduValue) × IsDialoguePdu p × ((external bytes : List ℕ) → IsOnly 0x28 external bytes → SpellsSequence (must 0x06 syntax ∷ must 0xa0 single ∷ []) external → SpellsDialogue p bytes)

structured-pdu : (single : List ℕ) → Stands (line.Portion portion.StructuredPdu) single → Held structured_syntax single
unfolding next may_end SpellsDialogue
structured-pdu single (ends l m) = absurd cc
structured-pdu single (begins l t held e rest i n h s) =
    let request_line = line.Pdu pdu.RequestVersion in
    let response_line = line.Pdu pdu.ResponseVersion in
    let abort_line = line.Pdu pdu.AbortSource in
    let third = only 0x64 e.tag (inside.Elements abort_line) nothing_more in
    let second = either (only 0x61 e.tag (inside.Elements response_line) nothing_more) third in
    elim (either-some (only 0x60 e.tag (inside.Elements request_line) nothing_more) second (leads held t) n) [
      | inl n ↦
          let k = only-takes 0x60 held (inside.Elements request_line) nothing_more t e rest n h s in
          let r = request e.content (elements-stand request_line e.content k.1) in
          (aarq r.0 r.1 r.2, refl, λ external bytes o q. record { external = external; single = e.whole ++ rest; content = e.content; is_external = o; in_sequence = q; is_pdu = with_it (must 0x60 e.content) [] e rest i (k.0, refl) (end-stands rest k.2); is_content = r.3 })
      | inr n ↦ elim (either-some (only 0x61 e.tag (inside.Elements response_line) nothing_more) third (leads held t) n) [
        | inl n ↦
            let k = only-takes 0x61 held (inside.Elements response_line) nothing_more t e rest n h s in
            let r = response e.content (elements-stand response_line e.content k.1) in
            (aare r.0 r.1 r.2 r.3 r.4, refl, λ external bytes o q. record { external = external; single = e.whole ++ rest; content = e.content; is_external = o; in_sequence = q; is_pdu = with_it (must 0x61 e.content) [] e rest i (k.0, refl) (end-stands rest k.2); is_content = r.5 })
        | inr n ↦
            let k = only-takes 0x64 held (inside.Elements abort_line) nothing_more t e rest n h s in
            let r = aborted e.content (elements-stand abort_line e.content k.1) in
            (abrt r.0 r.1, refl, λ external bytes o q. record { external = external; single = e.whole ++ rest; content = e.content; is_external = o; in_sequence = q; is_pdu = with_it (must 0x64 e.content) [] e rest i (k.0, refl) (end-stands rest k.2); is_content = r.2 })
      ]
    ]

unstructured-pdu : (single : List ℕ) → Stands (line.Portion portion.UnstructuredPdu) single → Held unstructured_syntax single
unfolding next may_end SpellsDialogue
unstructured-pdu single (ends l m) = absurd cc
unstructured-pdu single (begins l t held e rest i n h s) =
    let request_line = line.Pdu pdu.RequestVersion in
    let k = only-takes 0x60 held (inside.Elements request_line) nothing_more t e rest n h s in
    let r = request e.content (elements-stand request_line e.content k.1) in
    (audt r.0 r.1 r.2, refl, λ external bytes o q. record { external = external; single = e.whole ++ rest; content = e.content; is_external = o; in_sequence = q; is_pdu = with_it (must 0x60 e.content) [] e rest i (k.0, refl) (end-stands rest k.2); is_content = r.3 })

-- A0, which holds a PDU of this syntax
abbrev Behind : List ℕ → List ℕ → Type 0
Behind syntax bytes = (single : List ℕ) × SpellsSequence (must 0xa0 single ∷ []) bytes × Held syntax single

structured : (bytes : List ℕ) → Stands (line.Portion portion.Structured) bytes → Behind structured_syntax bytes
unfolding next may_end
structured bytes (ends l m) = absurd cc
structured bytes (begins l t held e rest i n h s) =
    let pdu_line = line.Portion portion.StructuredPdu in
    let k = only-takes 0xa0 held (inside.Elements pdu_line) nothing_more t e rest n h s in
    (e.content, with_it (must 0xa0 e.content) [] e rest i (k.0, refl) (end-stands rest k.2), structured-pdu e.content (elements-stand pdu_line e.content k.1))

unstructured : (bytes : List ℕ) → Stands (line.Portion portion.Unstructured) bytes → Behind unstructured_syntax bytes
unfolding next may_end
unstructured bytes (ends l m) = absurd cc
unstructured bytes (begins l t held e rest i n h s) =
    let pdu_line = line.Portion portion.UnstructuredPdu in
    let k = only-takes 0xa0 held (inside.Elements pdu_line) nothing_more t e rest n h s in
    (e.content, with_it (must 0xa0 e.content) [] e rest i (k.0, refl) (end-stands rest k.2), unstructured-pdu e.content (elements-stand pdu_line e.content k.1))

-- ---- the syntax

spelled : (syntax : List ℕ) (e : Parts) (rest : List ℕ) → IsElement 32 e → e.tag ≡ 0x06 ∷ [] → e.content ≡ syntax → Behind syntax rest → Spelled IsDialoguePdu (e.whole ++ rest)
spelled syntax e rest i t same b =
    (b.2.0, b.2.1, λ bytes o. b.2.2 (e.whole ++ rest) bytes o (with_it (must 0x06 syntax) (must 0xa0 b.0 ∷ []) e rest i (t, same) b.1))

same_bytes : (xs ys : List ℕ) → bytes_eq xs ys ≡ true → xs ≡ ys
same_bytes xs ys e = (bytes_eq-Decides xs ys).0 e

other_bytes : (xs ys : List ℕ) → bytes_eq xs ys ≡ false → xs ≢ ys
other_bytes xs ys e is = let yes = (bytes_eq-Decides xs ys).1 is in let e = e in let no : true ≡ false = sym yes ∙ e in absurd cc

-- behind one of the two syntaxes
by_structured : (e : Parts) (rest : List ℕ) → IsElement 32 e → e.tag ≡ 0x06 ∷ [] → bytes_eq e.content structured_syntax ≡ true → Stands (line_behind e.content) rest → Spelled IsDialoguePdu (e.whole ++ rest)
by_structured e rest i t y s =
    let s = s in
    let there : Stands (line.Portion portion.Structured) rest = rw y at s in
    spelled structured_syntax e rest i t (same_bytes e.content structured_syntax y) (structured rest there)

by_unstructured : (e : Parts) (rest : List ℕ) → IsElement 32 e → e.tag ≡ 0x06 ∷ [] → bytes_eq e.content structured_syntax ≡ false → bytes_eq e.content unstructured_syntax ≡ true → Stands (line_behind e.content) rest → Spelled IsDialoguePdu (e.whole ++ rest)
by_unstructured e rest i t n y s =
    let s = s in
    let there : Stands (line.Portion portion.Unstructured) rest = rw (n, y) at s in
    spelled unstructured_syntax e rest i t (same_bytes e.content unstructured_syntax y) (unstructured rest there)

dialogue-syntax : (external : List ℕ) → Stands (line.Portion portion.DialogueSyntax) external → Spelled IsDialoguePdu external
unfolding next may_end
dialogue-syntax external (ends l m) = absurd cc
dialogue-syntax external (begins l t held e rest i n h s) =
    let k = only-takes 0x06 held (inside.Octets contents.DialogueSyntax) (line_behind e.content) t e rest n h s in
    let f = octets-fit contents.DialogueSyntax e.content k.1 in
    elim (cases_Bool (bytes_eq e.content structured_syntax)) [
      | inl y ↦ by_structured e rest i k.0 y k.2
      | inr n ↦ let f = f in let y : bytes_eq e.content unstructured_syntax ≡ true = rw n at f in by_unstructured e rest i k.0 n y k.2
    ]

abbrev Anything : PduValue → Type 0
Anything p = Unit {0}

foreign-syntax : (e : Parts) (rest : List ℕ) → IsElement 32 e → e.tag ≡ 0x06 ∷ [] → fits contents.ObjectIdentifier e.content ≡ true → bytes_eq e.content structured_syntax ≡ false → bytes_eq e.content unstructured_syntax ≡ false → Stands (line_behind e.content) rest → (bytes : List ℕ) → IsOnly 0x28 (e.whole ++ rest) bytes → IsForeign bytes
foreign-syntax e rest i t f n o s bytes is =
    let s = s in
    let there : Stands (line.List list.Elements) rest = rw (n, o) at s in
    let r = elements-listed rest there in
    record {
      content = e.whole ++ rest;
      syntax = e.content;
      first = e;
      others = r.0;
      is_external = is;
      is_list = list_from e (e.whole ++ rest) rest r.0 i refl r.1;
      is_syntax = (t, refl);
      is_identifier = object_identifier_takes e.content f;
      not_structured = other_bytes e.content structured_syntax n;
      not_unstructured = other_bytes e.content unstructured_syntax o;
    }

-- what an EXTERNAL spells: a dialogue PDU, or it is foreign
abbrev SpelledAny : List ℕ → Type 0
SpelledAny external = (bytes : List ℕ) → IsOnly 0x28 external bytes → (p : PduValue) × SpellsDialogue p bytes

any-of : (external : List ℕ) → Spelled IsDialoguePdu external → SpelledAny external
any-of external r bytes o = (r.0, r.2 bytes o)

any-syntax : (external : List ℕ) → Stands (line.Portion portion.AnySyntax) external → SpelledAny external
unfolding next may_end SpellsDialogue
any-syntax external (ends l m) = absurd cc
any-syntax external (begins l t held e rest i n h s) =
    let k = only-takes 0x06 held (inside.Octets contents.ObjectIdentifier) (line_behind e.content) t e rest n h s in
    let f = octets-fit contents.ObjectIdentifier e.content k.1 in
    elim (cases_Bool (bytes_eq e.content structured_syntax)) [
      | inl y ↦ any-of (e.whole ++ rest) (by_structured e rest i k.0 y k.2)
      | inr n ↦ elim (cases_Bool (bytes_eq e.content unstructured_syntax)) [
        | inl y ↦ any-of (e.whole ++ rest) (by_unstructured e rest i k.0 n y k.2)
        | inr o ↦ λ bytes is. (foreign bytes, (refl, foreign-syntax e rest i k.0 f n o k.2 bytes is))
      ]
    ]

-- ---- the portion

pub external-stands : (bytes : List ℕ) → Stands (line.Portion portion.External) bytes → (p : PduValue) × IsDialoguePdu p × SpellsDialogue p bytes
unfolding next may_end
external-stands bytes (ends l m) = absurd cc
external-stands bytes (begins l t held e rest i n h s) =
    let syntax_line = line.Portion portion.DialogueSyntax in
    let k = only-takes 0x28 held (inside.Elements syntax_line) nothing_more t e rest n h s in
    let r = dialogue-syntax e.content (elements-stand syntax_line e.content k.1) in
    (r.0, r.1, r.2 (e.whole ++ rest) (with_it (must 0x28 e.content) [] e rest i (k.0, refl) (end-stands rest k.2)))

pub abort-external-stands : (bytes : List ℕ) → Stands (line.Portion portion.AbortExternal) bytes → (p : PduValue) × SpellsDialogue p bytes
unfolding next may_end
abort-external-stands bytes (ends l m) = absurd cc
abort-external-stands bytes (begins l t held e rest i n h s) =
    let syntax_line = line.Portion portion.AnySyntax in
    let k = only-takes 0x28 held (inside.Elements syntax_line) nothing_more t e rest n h s in
    any-syntax e.content (elements-stand syntax_line e.content k.1) (e.whole ++ rest) (with_it (must 0x28 e.content) [] e rest i (k.0, refl) (end-stands rest k.2))
