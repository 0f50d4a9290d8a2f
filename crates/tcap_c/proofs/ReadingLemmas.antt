-- An output is read back from its numbers and its parts.
use Rattle.std.proofs.Common.{◌≡◌, ℕ, ℤ, ◌<◌, Bool, List, Option, Some, None, refl, ap, ◌∙◌, arith}
use Rattle.tcap_component.specs.Component.{CodeParts}
use Rattle.tcap_component.specs.Problem.{ProblemParts}
use Rattle.tcap_component.specs.declared.problem.Kind.{Kind}
use Rattle.tcap_component.specs.declared.problem.Kind.TheVariants as problem
use Rattle.tcap_pdu.specs.DialogueSpelling.{PduValue, Source}
use Rattle.tcap_model.specs.Words.Output.{Output, AbortCause, Closing, ComponentIndication, DialogueIndication, DropCause, Rejector}
use Rattle.tcap_station.specs.WaitingOutput.{WaitingOutput}
use Rattle.tcap_c.proofs.RoomLemmas.{parts_back}
use Rattle.tcap_c.specs.Numbers.{cause_number, diagnostic_number, dialogue_number, drop_number, id_number, is_some, numbers_of, problem_number, with_lengths}
use Rattle.tcap_c.specs.Parts.{parts_of, lengths_of, octets_if_any}
use Rattle.tcap_c.specs.ReadingBack.{waiting_in, drop_in, if_so, id_in, problem_in, cause_in, diagnostic_in, output_in}
use Rattle.tcap_c.specs.declared.output_numbers.OutputNumbers.{OutputNumbers}
use Rattle.tcap_c.specs.declared.output_numbers.PartLengths.{PartLengths}
use Rattle.tcap_c.specs.Shows.{Shows, told_of, IsComponentTold, IsClosingTold, IsDialogueTold, IsId, IsIdIfAny, IsCoded, IsCause, IsDiagnostic, IsTold}

-- an identifier of one octet isn't none
pub id_back : (id : ℤ) → IsId id → id_in id ≡ Some id
id_back id is_id = grind arith

pub id_if_any_back : (id : Option ℤ) → IsIdIfAny id → id_in (id_number id) ≡ id
id_if_any_back None is_id = refl
id_if_any_back (Some id) is_id = id_back id is_id

pub problem_back : (p : ProblemParts) → IsCoded p → problem_in (problem_number p) ≡ p
problem_back p coded = by_kind p.kind p.code coded where
  by_kind : (k : Kind) (code : ℕ) → code < 256 → problem_in (problem_number (record { kind = k; code = code })) ≡ record { kind = k; code = code }
  by_kind problem.General code coded = grind arith
  by_kind problem.Invoke code coded = grind arith
  by_kind problem.Result code coded = grind arith
  by_kind problem.Error code coded = grind arith

pub cause_back : (why : AbortCause) → IsCause why → cause_in (cause_number why) ≡ why
cause_back (AbortCause.cause number) is_cause = grind arith
cause_back AbortCause.abnormal is_cause = refl
cause_back AbortCause.no_common is_cause = refl
cause_back AbortCause.idle is_cause = refl

pub drop_back : (why : DropCause) → drop_in (drop_number why) ≡ why
drop_back DropCause.too_long = refl
drop_back DropCause.bad_message = refl
drop_back DropCause.no_dialogue = refl
drop_back DropCause.bad_dialogue = refl

pub diagnostic_back : (d : Source) → IsDiagnostic d → diagnostic_in (diagnostic_number d) ≡ d
diagnostic_back (Source.user number) is_diagnostic = grind arith
diagnostic_back (Source.provider number) is_diagnostic = grind arith

pub dialogue_back : (d : Option ℕ) → if_so (is_some d) (dialogue_number d) ≡ d
dialogue_back None = refl
dialogue_back (Some d) = refl

pub octets_back : (octets : Option (List ℕ)) → if_so (is_some octets) (octets_if_any octets) ≡ octets
octets_back None = refl
octets_back (Some octets) = refl

-- ---- the outputs, whatever their event is, and their places

module _ (e : ℕ) (l : Bool) (ls : PartLengths) where
  -- an output is read back from its numbers and its parts
  abbrev IsBack : Output → Type 0
  IsBack o = output_in (with_lengths ls (record (numbers_of o) { event = e; is_last = l })) (parts_of o) ≡ o

  dialogue_told_back : (told : DialogueIndication) → IsDialogueTold told → IsBack (Output.dialogue told)
  dialogue_told_back (DialogueIndication.uni context info) t = λ i. Output.dialogue (DialogueIndication.uni (octets_back context i) info)
  dialogue_told_back (DialogueIndication.begin d context info) t = λ i. Output.dialogue (DialogueIndication.begin d (octets_back context i) info)
  dialogue_told_back (DialogueIndication.go_on d context info) t = λ i. Output.dialogue (DialogueIndication.go_on d (octets_back context i) info)
  dialogue_told_back (DialogueIndication.end d context info) t = λ i. Output.dialogue (DialogueIndication.end d (octets_back context i) info)
  dialogue_told_back (DialogueIndication.u_abort d None) t = refl
  dialogue_told_back (DialogueIndication.u_abort d (Some (PduValue.aarq version1 context info))) t = refl
  dialogue_told_back (DialogueIndication.u_abort d (Some (PduValue.audt version1 context info))) t = refl
  dialogue_told_back (DialogueIndication.u_abort d (Some (PduValue.aare version1 context accepted diagnostic info))) t = λ i.
      Output.dialogue (DialogueIndication.u_abort d (Some (PduValue.aare version1 context accepted (diagnostic_back diagnostic t i) info)))
  dialogue_told_back (DialogueIndication.u_abort d (Some (PduValue.abrt by_provider info))) t = refl
  dialogue_told_back (DialogueIndication.u_abort d (Some (PduValue.foreign external))) t = refl
  dialogue_told_back (DialogueIndication.p_abort d why) t = λ i. Output.dialogue (DialogueIndication.p_abort d (cause_back why t i))

  -- a result, whose body has this code and this parameter
  more_back : (d number : ℕ) (id : ℤ) (c : CodeParts) (q : Option (List ℕ))
      → IsBack (Output.component (ComponentIndication.result_more d number id (Some (record { code = c; parameter = q }))))
  more_back d number id (CodeParts.local n) q = λ i.
      Output.component (ComponentIndication.result_more d number id (Some (record { code = CodeParts.local n; parameter = octets_back q i })))
  more_back d number id (CodeParts.global o) q = λ i.
      Output.component (ComponentIndication.result_more d number id (Some (record { code = CodeParts.global o; parameter = octets_back q i })))

  last_back : (d number : ℕ) (id : ℤ) (c : CodeParts) (q : Option (List ℕ))
      → IsBack (Output.component (ComponentIndication.closed d number id (Closing.result_last (Some (record { code = c; parameter = q })))))
  last_back d number id (CodeParts.local n) q = λ i.
      Output.component (ComponentIndication.closed d number id (Closing.result_last (Some (record { code = CodeParts.local n; parameter = octets_back q i }))))
  last_back d number id (CodeParts.global o) q = λ i.
      Output.component (ComponentIndication.closed d number id (Closing.result_last (Some (record { code = CodeParts.global o; parameter = octets_back q i }))))

  closed_back : (d number : ℕ) (id : ℤ) (closing : Closing) → IsClosingTold closing
      → IsBack (Output.component (ComponentIndication.closed d number id closing))
  closed_back d number id (Closing.result_last None) t = refl
  closed_back d number id (Closing.result_last (Some body)) t = last_back d number id body.code body.parameter
  closed_back d number id (Closing.error_back (CodeParts.local n) q) t = λ i.
      Output.component (ComponentIndication.closed d number id (Closing.error_back (CodeParts.local n) (octets_back q i)))
  closed_back d number id (Closing.error_back (CodeParts.global o) q) t = λ i.
      Output.component (ComponentIndication.closed d number id (Closing.error_back (CodeParts.global o) (octets_back q i)))
  closed_back d number id (Closing.rejected p Rejector.local) t = λ i.
      Output.component (ComponentIndication.closed d number id (Closing.rejected (problem_back p t i) Rejector.local))
  closed_back d number id (Closing.rejected p Rejector.remote_provider) t = λ i.
      Output.component (ComponentIndication.closed d number id (Closing.rejected (problem_back p t i) Rejector.remote_provider))
  closed_back d number id (Closing.rejected p Rejector.remote_user) t = λ i.
      Output.component (ComponentIndication.closed d number id (Closing.rejected (problem_back p t i) Rejector.remote_user))
  closed_back d number id Closing.lapsed t = refl
  closed_back d number id Closing.ended t = refl
  closed_back d number id Closing.given_up t = refl

  component_told_back : (told : ComponentIndication) → IsComponentTold told → IsBack (Output.component told)
  component_told_back (ComponentIndication.invoked d id linked (CodeParts.local n) q) t = λ i.
      Output.component (ComponentIndication.invoked (dialogue_back d i) id (id_if_any_back linked t i) (CodeParts.local n) (octets_back q i))
  component_told_back (ComponentIndication.invoked d id linked (CodeParts.global o) q) t = λ i.
      Output.component (ComponentIndication.invoked (dialogue_back d i) id (id_if_any_back linked t i) (CodeParts.global o) (octets_back q i))
  component_told_back (ComponentIndication.result_more d number id None) t = refl
  component_told_back (ComponentIndication.result_more d number id (Some body)) t = more_back d number id body.code body.parameter
  component_told_back (ComponentIndication.local_reject d id p) t = λ i.
      Output.component (ComponentIndication.local_reject (dialogue_back d i) (id_if_any_back id t.0 i) (problem_back p t.1 i))
  component_told_back (ComponentIndication.remote_reject d id p Rejector.local) t = λ i.
      Output.component (ComponentIndication.remote_reject (dialogue_back d i) (id_if_any_back id t.0 i) (problem_back p t.1 i) Rejector.local)
  component_told_back (ComponentIndication.remote_reject d id p Rejector.remote_provider) t = λ i.
      Output.component (ComponentIndication.remote_reject (dialogue_back d i) (id_if_any_back id t.0 i) (problem_back p t.1 i) Rejector.remote_provider)
  component_told_back (ComponentIndication.remote_reject d id p Rejector.remote_user) t = λ i.
      Output.component (ComponentIndication.remote_reject (dialogue_back d i) (id_if_any_back id t.0 i) (problem_back p t.1 i) Rejector.remote_user)
  component_told_back (ComponentIndication.closed d number id closing) t = closed_back d number id closing t

  pub output_back : (o : Output) → IsTold o → IsBack o
  output_back (Output.send to bytes) t = refl
  output_back (Output.dialogue told) t = dialogue_told_back told t
  output_back (Output.component told) t = component_told_back told t
  output_back (Output.dropped why) t = ap Output.dropped (drop_back why)

pub read_back : (w : WaitingOutput) (n : OutputNumbers) (room : List ℕ) → Shows w n room → waiting_in n room ≡ w
read_back w n room shows =
    let ls = lengths_of (parts_of w.output) in
    let read : output_in (told_of w) (parts_of w.output) ≡ w.output = output_back w.event w.is_last ls w.output shows.in_range in
    ap (λ m. waiting_in m room) shows.numbers
    ∙ ap (λ p. record { output = output_in (told_of w) p; event = w.event; is_last = w.is_last }) (parts_back (parts_of w.output) (told_of w) room shows.octets)
    ∙ ap (λ (o : Output). record { output = o; event = w.event; is_last = w.is_last }) read
