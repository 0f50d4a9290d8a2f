-- An event that has a record has fields that fit, and fields that fit are those of an event that has one.
use Rattle.std.proofs.Common.{◌≡◌, ℕ, ℤ, List, length, Option, Some, None, refl, arith}
use Rattle.std.specs.Prelude.{IsTrue, nat_lt, nat_le, ◌&&◌}
use Rattle.std.proofs.lemmas.Bool.{ltb-true, lt-ltb, leb-true, le-leb}
use Rattle.tcap_component.specs.Component.{BodyParts}
use Rattle.tcap_model.specs.Words.Event.{Event}
use Rattle.tcap_model.specs.Words.Event.Event.{new_dialogue, on_dialogue, received, moment}
use Rattle.tcap_model.specs.Words.InRange.{InRange, are_octets, are_octets_if_any, is_address, is_identifier, is_identifier_if_any, is_code, is_body, is_problem, is_long, is_short, is_request}
use Rattle.tcap_model.specs.Words.Request.Request.{component, dialogue}
use Rattle.tcap_model.specs.Words.Request.ComponentRequest.{invoke, result_last, result_more, error_back, u_reject, u_cancel}
use Rattle.tcap_model.specs.Words.Request.DialogueRequest.{uni, begin, go_on, finish, u_abort}
use Rattle.tcap_record.specs.declared.kind.EventKind.{EventKind}
use Rattle.tcap_record.specs.declared.kind.EventKind.TheVariants as kind
use Rattle.tcap_record.specs.Layout.{Fields, event_of}
use Rattle.tcap_record.specs.Records.{kind_of, is_counted, is_counted_if_any, is_counted_code, is_counted_body, HasRecord}
use Rattle.tcap_record.proofs.OctetLemmas.{both_true, true_both}
use Rattle.tcap_record.proofs.FieldLaws.{CountedFits}
use Rattle.tcap_record.proofs.PartLaws.{OptionFits}
use Rattle.tcap_record.proofs.CodeLaws.{StringFits, BodyFits}
use Rattle.tcap_record.proofs.KindLaws.{fit_of}

-- ---- parts

string_fits : (o : Option (List ℕ)) → IsTrue (are_octets_if_any o) → IsTrue (is_counted_if_any o) → OptionFits StringFits o
string_fits None h k = tt
string_fits (Some octets) h k = (h, k)

fits_string : (o : Option (List ℕ)) → OptionFits StringFits o → IsTrue (are_octets_if_any o) × IsTrue (is_counted_if_any o)
fits_string None fit = (refl, refl)
fits_string (Some octets) fit = fit

id_fits : (o : Option ℤ) → IsTrue (is_identifier_if_any o) → OptionFits (λ (id : ℤ). IsTrue (is_identifier id)) o
id_fits None h = tt
id_fits (Some id) h = h

fits_id : (o : Option ℤ) → OptionFits (λ (id : ℤ). IsTrue (is_identifier id)) o → IsTrue (is_identifier_if_any o)
fits_id None fit = refl
fits_id (Some id) fit = fit

body_fits : (o : Option BodyParts) → IsTrue (is_body o) → IsTrue (is_counted_body o) → OptionFits BodyFits o
body_fits None h k = tt
body_fits (Some b) h k =
    let p = both_true (is_code b.code) (are_octets_if_any b.parameter) h in
    let q = both_true (is_counted_code b.code) (is_counted_if_any b.parameter) k in
    ((p.0, q.0), string_fits b.parameter p.1 q.1)

fits_body : (o : Option BodyParts) → OptionFits BodyFits o → IsTrue (is_body o) × IsTrue (is_counted_body o)
fits_body None fit = (refl, refl)
fits_body (Some b) fit =
    let p = fits_string b.parameter fit.1 in
    (true_both (is_code b.code) (are_octets_if_any b.parameter) fit.0.0 p.0, true_both (is_counted_code b.code) (is_counted_if_any b.parameter) fit.0.1 p.1)

address_fits : (octets : List ℕ) → IsTrue (is_address octets) → CountedFits (λ (n : ℕ). IsTrue (nat_lt n 256)) octets
address_fits octets h =
    let p = both_true (nat_le (length octets) 255) (are_octets octets) h in
    let few = leb-true (length octets) 255 p.0 in
    (p.1, lt-ltb (length octets) 256 (omega (arith, few)))

fits_address : (octets : List ℕ) → CountedFits (λ (n : ℕ). IsTrue (nat_lt n 256)) octets → IsTrue (is_address octets)
fits_address octets fit =
    let few = ltb-true (length octets) 256 fit.1 in
    true_both (nat_le (length octets) 255) (are_octets octets) (le-leb (length octets) 255 (omega (arith, few))) fit.0

-- ---- events

-- The fields of an event that has a record.
pub record Fielded (e : Event) : Type 0 where
  pub fields : Fields (kind_of e)
  pub is : event_of (kind_of e) fields ≡ e
  pub fit : fit_of (kind_of e) fields

-- On a dialogue: the identifier and the request.
asked_range : (d : ℕ) (r : _) → InRange (on_dialogue d r) → IsTrue (is_short d) × IsTrue (is_request r)
asked_range d r h = both_true (is_short d) (is_request r) h

pub fielded : (e : Event) → HasRecord e → Fielded e
fielded new_dialogue has = record { fields = tt; is = refl; fit = refl }
fielded (on_dialogue d (component (invoke id c op parameter linked timeout))) has =
    let h = asked_range d (component (invoke id c op parameter linked timeout)) has.in_range in
    let h4 = both_true (is_identifier id && is_code op && are_octets_if_any parameter && is_identifier_if_any linked) (is_long timeout) h.1 in
    let h3 = both_true (is_identifier id && is_code op && are_octets_if_any parameter) (is_identifier_if_any linked) h4.0 in
    let h2 = both_true (is_identifier id && is_code op) (are_octets_if_any parameter) h3.0 in
    let h1 = both_true (is_identifier id) (is_code op) h2.0 in
    let k = both_true (is_counted_code op) (is_counted_if_any parameter) has.is_counted in
    record {
      fields = (d, (id, (c, (op, (parameter, (linked, timeout))))));
      is = refl;
      fit = (h.0, (h1.0, (tt, ((h1.1, k.0), (string_fits parameter h2.1 k.1, (id_fits linked h3.1, h4.1))))));
    }
fielded (on_dialogue d (component (result_last id given))) has =
    let h = asked_range d (component (result_last id given)) has.in_range in
    let h1 = both_true (is_identifier id) (is_body given) h.1 in
    record { fields = (d, (id, given)); is = refl; fit = (h.0, (h1.0, body_fits given h1.1 has.is_counted)) }
fielded (on_dialogue d (component (result_more id given))) has =
    let h = asked_range d (component (result_more id given)) has.in_range in
    let h1 = both_true (is_identifier id) (is_body given) h.1 in
    record { fields = (d, (id, given)); is = refl; fit = (h.0, (h1.0, body_fits given h1.1 has.is_counted)) }
fielded (on_dialogue d (component (error_back id c parameter))) has =
    let h = asked_range d (component (error_back id c parameter)) has.in_range in
    let h2 = both_true (is_identifier id && is_code c) (are_octets_if_any parameter) h.1 in
    let h1 = both_true (is_identifier id) (is_code c) h2.0 in
    let k = both_true (is_counted_code c) (is_counted_if_any parameter) has.is_counted in
    record { fields = (d, (id, (c, parameter))); is = refl; fit = (h.0, (h1.0, ((h1.1, k.0), string_fits parameter h2.1 k.1))) }
fielded (on_dialogue d (component (u_reject id p))) has =
    let h = asked_range d (component (u_reject id p)) has.in_range in
    let h1 = both_true (is_identifier_if_any id) (is_problem p) h.1 in
    record { fields = (d, (id, p)); is = refl; fit = (h.0, (id_fits id h1.0, h1.1)) }
fielded (on_dialogue d (component (u_cancel id))) has =
    record { fields = (d, id); is = refl; fit = asked_range d (component (u_cancel id)) has.in_range }
fielded (on_dialogue d (dialogue (uni to context info))) has =
    let h = asked_range d (dialogue (uni to context info)) has.in_range in
    let h2 = both_true (is_address to && are_octets_if_any context) (are_octets info) h.1 in
    let h1 = both_true (is_address to) (are_octets_if_any context) h2.0 in
    let k = both_true (is_counted_if_any context) (is_counted info) has.is_counted in
    record { fields = (d, (to, (context, info))); is = refl; fit = (h.0, (address_fits to h1.0, (string_fits context h1.1 k.0, (h2.1, k.1)))) }
fielded (on_dialogue d (dialogue (begin to context info))) has =
    let h = asked_range d (dialogue (begin to context info)) has.in_range in
    let h2 = both_true (is_address to && are_octets_if_any context) (are_octets info) h.1 in
    let h1 = both_true (is_address to) (are_octets_if_any context) h2.0 in
    let k = both_true (is_counted_if_any context) (is_counted info) has.is_counted in
    record { fields = (d, (to, (context, info))); is = refl; fit = (h.0, (address_fits to h1.0, (string_fits context h1.1 k.0, (h2.1, k.1)))) }
fielded (on_dialogue d (dialogue (go_on context info))) has =
    let h = asked_range d (dialogue (go_on context info)) has.in_range in
    let h1 = both_true (are_octets_if_any context) (are_octets info) h.1 in
    let k = both_true (is_counted_if_any context) (is_counted info) has.is_counted in
    record { fields = (d, (context, info)); is = refl; fit = (h.0, (string_fits context h1.0 k.0, (h1.1, k.1))) }
fielded (on_dialogue d (dialogue (finish how context info))) has =
    let h = asked_range d (dialogue (finish how context info)) has.in_range in
    let h1 = both_true (are_octets_if_any context) (are_octets info) h.1 in
    let k = both_true (is_counted_if_any context) (is_counted info) has.is_counted in
    record { fields = (d, (how, (context, info))); is = refl; fit = (h.0, (tt, (string_fits context h1.0 k.0, (h1.1, k.1)))) }
fielded (on_dialogue d (dialogue (u_abort why info))) has =
    let h = asked_range d (dialogue (u_abort why info)) has.in_range in
    record { fields = (d, (why, info)); is = refl; fit = (h.0, (tt, (h.1, has.is_counted))) }
fielded (received from bytes) has =
    let h = both_true (is_address from) (are_octets bytes) has.in_range in
    record { fields = (from, bytes); is = refl; fit = (address_fits from h.0, (h.1, has.is_counted)) }
fielded (moment now) has = record { fields = now; is = refl; fit = has.in_range }

asked_in : (d : ℕ) (r : _) → IsTrue (is_short d) → IsTrue (is_request r) → InRange (on_dialogue d r)
asked_in d r h k = true_both (is_short d) (is_request r) h k

pub has_record : (k : EventKind) (f : Fields k) → fit_of k f → HasRecord (event_of k f)
has_record kind.NewDialogue f fit = record { in_range = refl; is_counted = refl }
has_record kind.Invoke f fit =
    let id = f.1.0 in let op = f.1.1.1.0 in let parameter = f.1.1.1.1.0 in let linked = f.1.1.1.1.1.0 in let timeout = f.1.1.1.1.1.1 in
    let c = fit.1.1.1.0 in
    let p = fits_string parameter fit.1.1.1.1.0 in
    let l = fits_id linked fit.1.1.1.1.1.0 in
    let r1 = true_both (is_identifier id) (is_code op) fit.1.0 c.0 in
    let r2 = true_both (is_identifier id && is_code op) (are_octets_if_any parameter) r1 p.0 in
    let r3 = true_both (is_identifier id && is_code op && are_octets_if_any parameter) (is_identifier_if_any linked) r2 l in
    let r4 = true_both (is_identifier id && is_code op && are_octets_if_any parameter && is_identifier_if_any linked) (is_long timeout) r3 fit.1.1.1.1.1.1 in
    record {
      in_range = true_both (is_short f.0) _ fit.0 r4;
      is_counted = true_both (is_counted_code op) (is_counted_if_any parameter) c.1 p.1;
    }
has_record kind.ResultLast f fit =
    let b = fits_body f.1.1 fit.1.1 in
    record { in_range = true_both (is_short f.0) _ fit.0 (true_both (is_identifier f.1.0) (is_body f.1.1) fit.1.0 b.0); is_counted = b.1 }
has_record kind.ResultMore f fit =
    let b = fits_body f.1.1 fit.1.1 in
    record { in_range = true_both (is_short f.0) _ fit.0 (true_both (is_identifier f.1.0) (is_body f.1.1) fit.1.0 b.0); is_counted = b.1 }
has_record kind.ErrorBack f fit =
    let id = f.1.0 in let op = f.1.1.0 in let parameter = f.1.1.1 in
    let c = fit.1.1.0 in
    let p = fits_string parameter fit.1.1.1 in
    let r1 = true_both (is_identifier id) (is_code op) fit.1.0 c.0 in
    let r2 = true_both (is_identifier id && is_code op) (are_octets_if_any parameter) r1 p.0 in
    record { in_range = true_both (is_short f.0) _ fit.0 r2; is_counted = true_both (is_counted_code op) (is_counted_if_any parameter) c.1 p.1 }
has_record kind.Reject f fit = record {
  in_range = true_both (is_short f.0) _ fit.0 (true_both (is_identifier_if_any f.1.0) (is_problem f.1.1) (fits_id f.1.0 fit.1.0) fit.1.1);
  is_counted = refl;
}
has_record kind.Cancel f fit = record { in_range = true_both (is_short f.0) (is_identifier f.1) fit.0 fit.1; is_counted = refl }
has_record kind.Uni f fit =
    let to = f.1.0 in let context = f.1.1.0 in let info = f.1.1.1 in
    let p = fits_string context fit.1.1.0 in
    let r1 = true_both (is_address to) (are_octets_if_any context) (fits_address to fit.1.0) p.0 in
    let r2 = true_both (is_address to && are_octets_if_any context) (are_octets info) r1 fit.1.1.1.0 in
    record { in_range = true_both (is_short f.0) _ fit.0 r2; is_counted = true_both (is_counted_if_any context) (is_counted info) p.1 fit.1.1.1.1 }
has_record kind.Begin f fit =
    let to = f.1.0 in let context = f.1.1.0 in let info = f.1.1.1 in
    let p = fits_string context fit.1.1.0 in
    let r1 = true_both (is_address to) (are_octets_if_any context) (fits_address to fit.1.0) p.0 in
    let r2 = true_both (is_address to && are_octets_if_any context) (are_octets info) r1 fit.1.1.1.0 in
    record { in_range = true_both (is_short f.0) _ fit.0 r2; is_counted = true_both (is_counted_if_any context) (is_counted info) p.1 fit.1.1.1.1 }
has_record kind.Continue f fit =
    let p = fits_string f.1.0 fit.1.0 in
    record {
      in_range = true_both (is_short f.0) _ fit.0 (true_both (are_octets_if_any f.1.0) (are_octets f.1.1) p.0 fit.1.1.0);
      is_counted = true_both (is_counted_if_any f.1.0) (is_counted f.1.1) p.1 fit.1.1.1;
    }
has_record kind.End f fit =
    let p = fits_string f.1.1.0 fit.1.1.0 in
    record {
      in_range = true_both (is_short f.0) _ fit.0 (true_both (are_octets_if_any f.1.1.0) (are_octets f.1.1.1) p.0 fit.1.1.1.0);
      is_counted = true_both (is_counted_if_any f.1.1.0) (is_counted f.1.1.1) p.1 fit.1.1.1.1;
    }
has_record kind.Abort f fit = record { in_range = true_both (is_short f.0) (are_octets f.1.1) fit.0 fit.1.1.0; is_counted = fit.1.1.1 }
has_record kind.Bytes f fit = record { in_range = true_both (is_address f.0) (are_octets f.1) (fits_address f.0 fit.0) fit.1.0; is_counted = fit.1.1 }
has_record kind.Moment f fit = record { in_range = fit; is_counted = refl }
