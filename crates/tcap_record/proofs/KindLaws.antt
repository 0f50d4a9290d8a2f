-- The laws of the fields of each kind of event.
use Rattle.std.proofs.Common.{◌≡◌, ℕ, ℤ, List, [], Option, refl}
use Rattle.std.specs.Prelude.{IsTrue, nat_lt}
use Rattle.tcap_component.specs.Problem.{ProblemParts}
use Rattle.tcap_model.specs.Words.InRange.{is_identifier, is_problem, is_long, is_short}
use Rattle.tcap_record.specs.declared.kind.EventKind.{EventKind}
use Rattle.tcap_record.specs.declared.kind.EventKind.TheVariants as kind
use Rattle.tcap_record.specs.Fields.{Reading, pair, pair_at}
use Rattle.tcap_record.specs.Parts
use Rattle.tcap_record.specs.Layout.{Fields, event_of, kind_fields_at}
use Rattle.tcap_record.specs.Records.{kind_of, fields_of}
use Rattle.tcap_record.proofs.FieldLaws.{IsField, CountedFits}
use Rattle.tcap_record.proofs.ChoiceLaws.{PairFits, pair_field, nothing_field}
use Rattle.tcap_record.proofs.PartLaws.{OptionFits, short_field, long_field, identifier_field, octet_string_field, address_field, optional_field}
use Rattle.tcap_record.proofs.CodeLaws.{StringFits, CodeFits, BodyFits, code_field, body_field, class_field, problem_field, ending_field, reason_field}

-- ---- what fits

abbrev ShortFits : ℕ → Type 0
ShortFits n = IsTrue (is_short n)

abbrev LongFits : ℕ → Type 0
LongFits n = IsTrue (is_long n)

abbrev IdFits : ℤ → Type 0
IdFits id = IsTrue (is_identifier id)

abbrev AddressFits : List ℕ → Type 0
AddressFits octets = CountedFits (λ (n : ℕ). IsTrue (nat_lt n 256)) octets

abbrev ProblemFits : ProblemParts → Type 0
ProblemFits p = IsTrue (is_problem p)

abbrev Any : {X : Type 0} → X → Type 0
Any x = Unit {0}

abbrev PortionFits : Option (List ℕ) × List ℕ → Type 0
PortionFits both = PairFits (OptionFits StringFits) StringFits both

-- The fields of each kind fit.
abbrev pub fit_of : (k : EventKind) → Fields k → Type 0
fit_of kind.NewDialogue f = tt ≡ f
fit_of kind.Invoke f = PairFits ShortFits (PairFits IdFits (PairFits Any (PairFits CodeFits (PairFits (OptionFits StringFits) (PairFits (OptionFits IdFits) LongFits))))) f
fit_of kind.ResultLast f = PairFits ShortFits (PairFits IdFits (OptionFits BodyFits)) f
fit_of kind.ResultMore f = PairFits ShortFits (PairFits IdFits (OptionFits BodyFits)) f
fit_of kind.ErrorBack f = PairFits ShortFits (PairFits IdFits (PairFits CodeFits (OptionFits StringFits))) f
fit_of kind.Reject f = PairFits ShortFits (PairFits (OptionFits IdFits) ProblemFits) f
fit_of kind.Cancel f = PairFits ShortFits IdFits f
fit_of kind.Uni f = PairFits ShortFits (PairFits AddressFits PortionFits) f
fit_of kind.Begin f = PairFits ShortFits (PairFits AddressFits PortionFits) f
fit_of kind.Continue f = PairFits ShortFits PortionFits f
fit_of kind.End f = PairFits ShortFits (PairFits Any PortionFits) f
fit_of kind.Abort f = PairFits ShortFits (PairFits Any StringFits) f
fit_of kind.Bytes f = PairFits AddressFits StringFits f
fit_of kind.Moment f = LongFits f

abbrev portion : Option (List ℕ) × List ℕ → List ℕ
portion both = pair (Parts.optional Parts.octet_string) Parts.octet_string both

-- The octets of each kind's fields.
abbrev pub octets_in : (k : EventKind) → Fields k → List ℕ
octets_in kind.NewDialogue f = []
octets_in kind.Invoke f =
    pair Parts.short (pair Parts.identifier (pair Parts.class (pair Parts.code (pair (Parts.optional Parts.octet_string) (pair (Parts.optional Parts.identifier) Parts.long))))) f
octets_in kind.ResultLast f = pair Parts.short (pair Parts.identifier (Parts.optional Parts.body)) f
octets_in kind.ResultMore f = pair Parts.short (pair Parts.identifier (Parts.optional Parts.body)) f
octets_in kind.ErrorBack f = pair Parts.short (pair Parts.identifier (pair Parts.code (Parts.optional Parts.octet_string))) f
octets_in kind.Reject f = pair Parts.short (pair (Parts.optional Parts.identifier) Parts.problem) f
octets_in kind.Cancel f = pair Parts.short Parts.identifier f
octets_in kind.Uni f = pair Parts.short (pair Parts.address portion) f
octets_in kind.Begin f = pair Parts.short (pair Parts.address portion) f
octets_in kind.Continue f = pair Parts.short portion f
octets_in kind.End f = pair Parts.short (pair Parts.ending portion) f
octets_in kind.Abort f = pair Parts.short (pair Parts.reason Parts.octet_string) f
octets_in kind.Bytes f = pair Parts.address Parts.octet_string f
octets_in kind.Moment f = Parts.long f

-- ---- the laws

both : {X Y : Type 0} {fit1 : X → Type 0} {fit2 : Y → Type 0} {octets1 : X → List ℕ} {octets2 : Y → List ℕ} {at1 : List ℕ → Reading X} {at2 : List ℕ → Reading Y}
    → IsField fit1 octets1 at1 → IsField fit2 octets2 at2 → IsField (PairFits fit1 fit2) (pair octets1 octets2) (pair_at at1 at2)
both {fit1 = fit1} {fit2 = fit2} {octets1 = octets1} {octets2 = octets2} {at1 = at1} {at2 = at2} one two = pair_field fit1 fit2 octets1 octets2 at1 at2 one two

string_if_any : IsField (OptionFits StringFits) (Parts.optional Parts.octet_string) (Parts.optional_at Parts.octet_string_at)
string_if_any = optional_field StringFits Parts.octet_string Parts.octet_string_at octet_string_field

id_if_any : IsField (OptionFits IdFits) (Parts.optional Parts.identifier) (Parts.optional_at Parts.identifier_at)
id_if_any = optional_field IdFits Parts.identifier Parts.identifier_at identifier_field

body_if_any : IsField (OptionFits BodyFits) (Parts.optional Parts.body) (Parts.optional_at Parts.body_at)
body_if_any = optional_field BodyFits Parts.body Parts.body_at body_field

-- The fields of each kind are a field.
pub field_in : (k : EventKind) → IsField (fit_of k) (octets_in k) (kind_fields_at k)
unfolding kind_fields_at
field_in kind.NewDialogue = nothing_field tt (octets_in kind.NewDialogue) refl
field_in kind.Invoke = both short_field (both identifier_field (both class_field (both code_field (both string_if_any (both id_if_any long_field)))))
field_in kind.ResultLast = both short_field (both identifier_field body_if_any)
field_in kind.ResultMore = both short_field (both identifier_field body_if_any)
field_in kind.ErrorBack = both short_field (both identifier_field (both code_field string_if_any))
field_in kind.Reject = both short_field (both id_if_any problem_field)
field_in kind.Cancel = both short_field identifier_field
field_in kind.Uni = both short_field (both address_field (both string_if_any octet_string_field))
field_in kind.Begin = both short_field (both address_field (both string_if_any octet_string_field))
field_in kind.Continue = both short_field (both string_if_any octet_string_field)
field_in kind.End = both short_field (both ending_field (both string_if_any octet_string_field))
field_in kind.Abort = both short_field (both reason_field octet_string_field)
field_in kind.Bytes = both address_field octet_string_field
field_in kind.Moment = long_field

pub kind_is : (k : EventKind) (f : Fields k) → kind_of (event_of k f) ≡ k
kind_is kind.NewDialogue f = refl
kind_is kind.Invoke f = refl
kind_is kind.ResultLast f = refl
kind_is kind.ResultMore f = refl
kind_is kind.ErrorBack f = refl
kind_is kind.Reject f = refl
kind_is kind.Cancel f = refl
kind_is kind.Uni f = refl
kind_is kind.Begin f = refl
kind_is kind.Continue f = refl
kind_is kind.End f = refl
kind_is kind.Abort f = refl
kind_is kind.Bytes f = refl
kind_is kind.Moment f = refl

pub octets_same : (k : EventKind) (f : Fields k) → fields_of (event_of k f) ≡ octets_in k f
octets_same kind.NewDialogue f = refl
octets_same kind.Invoke f = refl
octets_same kind.ResultLast f = refl
octets_same kind.ResultMore f = refl
octets_same kind.ErrorBack f = refl
octets_same kind.Reject f = refl
octets_same kind.Cancel f = refl
octets_same kind.Uni f = refl
octets_same kind.Begin f = refl
octets_same kind.Continue f = refl
octets_same kind.End f = refl
octets_same kind.Abort f = refl
octets_same kind.Bytes f = refl
octets_same kind.Moment f = refl
