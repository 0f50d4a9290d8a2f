-- Elements that stand in a table of messages are a message.
use Rattle.std.proofs.Common.{◌≡◌, ℕ, ◌≤◌, true, false, eqb, leb, List, [], ◌∷◌, ◌++◌, length, Option, Some, None, refl, sym, ap, ◌∙◌, arith, inl, inr}
use Rattle.std.proofs.lemmas.Bool.{cases_Bool, eqb-false}
use Rattle.std.proofs.lemmas.Bool.Decides.{nat_tests}
use Rattle.ber_core.specs.Element.{Parts, IsElement}
use Rattle.ber_core.specs.Sequence.{SpellsSequence}
use Rattle.ber_core.specs.Sequence.Field.{must, may, filled}
use Rattle.tcap_pdu.specs.TransId.{IsTransId}
use Rattle.tcap_pdu.specs.FrameSpelling.{Reason, Message, message_tag, fields, reason_fields, IsReason, HasIds, HasCause, IsFrame}
use Rattle.tcap_pdu.specs.FrameSpelling.Reason.{nothing, cause, portion}
use Rattle.tcap_pdu.specs.FrameSpelling.Message.{unidirectional, begin, end, go_on, abort}
use Rattle.tcap_explain.specs.declared.contents.Contents.TheVariants as contents
use Rattle.tcap_explain.specs.declared.line.Line.{Line}
use Rattle.tcap_explain.specs.declared.line.Line.TheVariants as line
use Rattle.tcap_explain.specs.declared.line.ListLine.TheVariants as list
use Rattle.tcap_explain.specs.declared.line.MessageLine.TheVariants as message
use Rattle.tcap_explain.specs.declared.table.Inside.{Inside}
use Rattle.tcap_explain.specs.declared.table.Inside.TheVariants as inside
use Rattle.tcap_explain.specs.Choice.{leads, only, either}
use Rattle.tcap_explain.specs.Octets.{fits}
use Rattle.tcap_explain.specs.Table.{next, may_end}
use Rattle.tcap_explain.specs.Unmet.{Stands}
use Rattle.tcap_explain.specs.Unmet.Stands.{ends, begins}
use Rattle.tcap_explain.proofs.StandsLemmas.{octets-fit, elements-stand, either-some, only-takes, without, with_it, no_elements, end-stands}

abbrev whatever : Inside
whatever = inside.Octets contents.Any

abbrev identifier : Inside
identifier = inside.Octets contents.TransactionId

abbrev nothing_more : Line
nothing_more = line.List list.End

within-four : (c : List ℕ) → leb (length c) 4 ≡ true → length c ≤ 4
within-four c h = grind (arith, nat_tests)

id-fits : (c : List ℕ) → fits contents.TransactionId c ≡ true → IsTransId c
id-fits c h = elim (cases_Bool (eqb (length c) 0)) [
  | inl y ↦ let h = h in let no : false ≡ true = rw y at h in absurd cc
  | inr n ↦ let h = h in
      let ne = eqb-false (length c) 0 n in
      let le : leb (length c) 4 ≡ true = rw n at h in
      (omega (arith, ne), within-four c le)
]

cause-within : (n : ℕ) → leb n 0x7f ≡ true → n ≤ 0x7f
cause-within n h = grind (arith, nat_tests)

cause-fits : (c : List ℕ) → fits contents.PAbortCause c ≡ true → (n : ℕ) × (c ≡ n ∷ []) × (n ≤ 0x7f)
cause-fits [] h = absurd cc
cause-fits (n ∷ []) h = (n, refl, cause-within n h)
cause-fits (n ∷ m ∷ more) h = absurd cc

component-portion : (bytes : List ℕ) → Stands (line.Message message.ComponentPortion) bytes → (c : List ℕ) × SpellsSequence (filled 0x6c c ∷ []) bytes
unfolding next may_end
component-portion bytes (ends l m) = ([], without (filled 0x6c []) [] [] refl no_elements)
component-portion bytes (begins l t held e rest i n h s) =
    let k = only-takes 0x6c held whatever nothing_more t e rest n h s in
    (e.content, with_it (filled 0x6c e.content) [] e rest i (k.0, refl) (end-stands rest k.2))

portions : (bytes : List ℕ) → Stands (line.Message message.Portions) bytes → (d : Option (List ℕ)) × (c : List ℕ) × SpellsSequence (may 0x6b d ∷ filled 0x6c c ∷ []) bytes
unfolding next may_end
portions bytes (ends l m) = (None, [], without (may 0x6b None) (filled 0x6c [] ∷ []) [] refl (without (filled 0x6c []) [] [] refl no_elements))
portions bytes (begins l t held e rest i n h s) =
    elim (either-some (only 0x6b e.tag whatever (line.Message message.ComponentPortion)) (only 0x6c e.tag whatever nothing_more) (leads held t) n) [
      | inl n ↦
          let k = only-takes 0x6b held whatever (line.Message message.ComponentPortion) t e rest n h s in
          let r = component-portion rest k.2 in
          (Some e.content, r.0, with_it (may 0x6b (Some e.content)) (filled 0x6c r.0 ∷ []) e rest i (k.0, refl) r.1)
      | inr n ↦
          let k = only-takes 0x6c held whatever nothing_more t e rest n h s in
          (None, e.content, without (may 0x6b None) (filled 0x6c e.content ∷ []) (e.whole ++ rest) refl (with_it (filled 0x6c e.content) [] e rest i (k.0, refl) (end-stands rest k.2)))
    ]

uni-components : (bytes : List ℕ) → Stands (line.Message message.UniComponents) bytes → (c : List ℕ) × SpellsSequence (must 0x6c c ∷ []) bytes
unfolding next may_end
uni-components bytes (ends l m) = absurd cc
uni-components bytes (begins l t held e rest i n h s) =
    let k = only-takes 0x6c held whatever nothing_more t e rest n h s in
    (e.content, with_it (must 0x6c e.content) [] e rest i (k.0, refl) (end-stands rest k.2))

-- a message with this tag has these contents
abbrev pub HasContents : ℕ → List ℕ → Type 0
HasContents tag bytes = (m : Message) × (message_tag m ≡ tag) × SpellsSequence (fields m) bytes × HasIds m × HasCause m

uni : (bytes : List ℕ) → Stands (line.Message message.UniPortions) bytes → HasContents 0x61 bytes
unfolding next may_end
uni bytes (ends l m) = absurd cc
uni bytes (begins l t held e rest i n h s) =
    elim (either-some (only 0x6b e.tag whatever (line.Message message.UniComponents)) (only 0x6c e.tag whatever nothing_more) (leads held t) n) [
      | inl n ↦
          let k = only-takes 0x6b held whatever (line.Message message.UniComponents) t e rest n h s in
          let r = uni-components rest k.2 in
          (unidirectional (Some e.content) r.0, refl, with_it (may 0x6b (Some e.content)) (must 0x6c r.0 ∷ []) e rest i (k.0, refl) r.1, tt, tt)
      | inr n ↦
          let k = only-takes 0x6c held whatever nothing_more t e rest n h s in
          (unidirectional None e.content, refl, without (may 0x6b None) (must 0x6c e.content ∷ []) (e.whole ++ rest) refl (with_it (must 0x6c e.content) [] e rest i (k.0, refl) (end-stands rest k.2)), tt, tt)
    ]

begin-contents : (bytes : List ℕ) → Stands (line.Message message.BeginOrigin) bytes → HasContents 0x62 bytes
unfolding next may_end
begin-contents bytes (ends l m) = absurd cc
begin-contents bytes (begins l t held e rest i n h s) =
    let k = only-takes 0x48 held identifier (line.Message message.Portions) t e rest n h s in
    let r = portions rest k.2 in
    (begin e.content r.0 r.1, refl, with_it (must 0x48 e.content) (may 0x6b r.0 ∷ filled 0x6c r.1 ∷ []) e rest i (k.0, refl) r.2, id-fits e.content (octets-fit contents.TransactionId e.content k.1), tt)

-- 49 and what follows it in an End, and in a Continue
abbrev Destined : List ℕ → Type 0
Destined bytes = (d : List ℕ) × (p : Option (List ℕ)) × (c : List ℕ) × IsTransId d × SpellsSequence (must 0x49 d ∷ may 0x6b p ∷ filled 0x6c c ∷ []) bytes

destined : (bytes : List ℕ) → Stands (line.Message message.Destination) bytes → Destined bytes
unfolding next may_end
destined bytes (ends l m) = absurd cc
destined bytes (begins l t held e rest i n h s) =
    let k = only-takes 0x49 held identifier (line.Message message.Portions) t e rest n h s in
    let r = portions rest k.2 in
    (e.content, r.0, r.1, id-fits e.content (octets-fit contents.TransactionId e.content k.1), with_it (must 0x49 e.content) (may 0x6b r.0 ∷ filled 0x6c r.1 ∷ []) e rest i (k.0, refl) r.2)

end-contents : (bytes : List ℕ) → Stands (line.Message message.Destination) bytes → HasContents 0x64 bytes
end-contents bytes s = let r = destined bytes s in (end r.0 r.1 r.2, refl, r.4, r.3, tt)

continue-contents : (bytes : List ℕ) → Stands (line.Message message.ContinueOrigin) bytes → HasContents 0x65 bytes
unfolding next may_end
continue-contents bytes (ends l m) = absurd cc
continue-contents bytes (begins l t held e rest i n h s) =
    let k = only-takes 0x48 held identifier (line.Message message.Destination) t e rest n h s in
    let r = destined rest k.2 in
    (go_on e.content r.0 r.1 r.2, refl, with_it (must 0x48 e.content) (must 0x49 r.0 ∷ may 0x6b r.1 ∷ filled 0x6c r.2 ∷ []) e rest i (k.0, refl) r.4, (id-fits e.content (octets-fit contents.TransactionId e.content k.1), r.3), tt)

reason : (bytes : List ℕ) → Stands (line.Message message.AbortReason) bytes → (r : Reason) × IsReason r × SpellsSequence (reason_fields r) bytes
unfolding next may_end
reason bytes (ends l m) = (nothing, tt, no_elements)
reason bytes (begins l t held e rest i n h s) =
    elim (either-some (only 0x4a e.tag (inside.Octets contents.PAbortCause) nothing_more) (only 0x6b e.tag whatever nothing_more) (leads held t) n) [
      | inl n ↦
          let k = only-takes 0x4a held (inside.Octets contents.PAbortCause) nothing_more t e rest n h s in
          let c = cause-fits e.content (octets-fit contents.PAbortCause e.content k.1) in
          (cause c.0, c.2, with_it (must 0x4a (c.0 ∷ [])) [] e rest i (k.0, c.1) (end-stands rest k.2))
      | inr n ↦
          let k = only-takes 0x6b held whatever nothing_more t e rest n h s in
          (portion e.content, tt, with_it (must 0x6b e.content) [] e rest i (k.0, refl) (end-stands rest k.2))
    ]

abort-contents : (bytes : List ℕ) → Stands (line.Message message.AbortDestination) bytes → HasContents 0x67 bytes
unfolding next may_end
abort-contents bytes (ends l m) = absurd cc
abort-contents bytes (begins l t held e rest i n h s) =
    let k = only-takes 0x49 held identifier (line.Message message.AbortReason) t e rest n h s in
    let r = reason rest k.2 in
    (abort e.content r.0, refl, with_it (must 0x49 e.content) (reason_fields r.0) e rest i (k.0, refl) r.2, id-fits e.content (octets-fit contents.TransactionId e.content k.1), r.1)

abbrev pub IsMessage : Parts → Type 0
IsMessage e = (m : Message) × IsFrame m e

framed : (tag : ℕ) (e : Parts) → e.tag ≡ tag ∷ [] → HasContents tag e.content → IsMessage e
framed tag e t c = (c.0, record { is_tag = t ∙ ap (λ (n : ℕ). n ∷ []) (sym c.1); in_sequence = c.2; has_ids = c.3; has_cause = c.4 })

-- the first element is a message
abbrev pub BeginsWithMessage : List ℕ → Type 0
BeginsWithMessage bytes = (e : Parts) × (rest : List ℕ) × IsElement 32 e × (bytes ≡ e.whole ++ rest) × IsMessage e

abbrev inner : Line → Inside
inner l = inside.Elements l

pub message-stands : (bytes : List ℕ) → Stands (line.Message message.MessageType) bytes → BeginsWithMessage bytes
unfolding next may_end
message-stands bytes (ends l m) = absurd cc
message-stands bytes (begins l t held e rest i n h s) =
    let uni_line = line.Message message.UniPortions in
    let begin_line = line.Message message.BeginOrigin in
    let end_line = line.Message message.Destination in
    let continue_line = line.Message message.ContinueOrigin in
    let abort_line = line.Message message.AbortDestination in
    let fifth = only 0x67 e.tag (inner abort_line) nothing_more in
    let fourth = either (only 0x65 e.tag (inner continue_line) nothing_more) fifth in
    let third = either (only 0x64 e.tag (inner end_line) nothing_more) fourth in
    let second = either (only 0x62 e.tag (inner begin_line) nothing_more) third in (
      e,
      rest,
      i,
      refl,
      elim (either-some (only 0x61 e.tag (inner uni_line) nothing_more) second (leads held t) n) [
        | inl n ↦ let k = only-takes 0x61 held (inner uni_line) nothing_more t e rest n h s in framed 0x61 e k.0 (uni e.content (elements-stand uni_line e.content k.1))
        | inr n ↦ elim (either-some (only 0x62 e.tag (inner begin_line) nothing_more) third (leads held t) n) [
          | inl n ↦ let k = only-takes 0x62 held (inner begin_line) nothing_more t e rest n h s in framed 0x62 e k.0 (begin-contents e.content (elements-stand begin_line e.content k.1))
          | inr n ↦ elim (either-some (only 0x64 e.tag (inner end_line) nothing_more) fourth (leads held t) n) [
            | inl n ↦ let k = only-takes 0x64 held (inner end_line) nothing_more t e rest n h s in framed 0x64 e k.0 (end-contents e.content (elements-stand end_line e.content k.1))
            | inr n ↦ elim (either-some (only 0x65 e.tag (inner continue_line) nothing_more) fifth (leads held t) n) [
              | inl n ↦ let k = only-takes 0x65 held (inner continue_line) nothing_more t e rest n h s in framed 0x65 e k.0 (continue-contents e.content (elements-stand continue_line e.content k.1))
              | inr n ↦ let k = only-takes 0x67 held (inner abort_line) nothing_more t e rest n h s in framed 0x67 e k.0 (abort-contents e.content (elements-stand abort_line e.content k.1))
            ]
          ]
        ]
      ],
    )
