-- The laws of codes, bodies and problems as fields, and of what an octet stands for.
use Rattle.std.proofs.Common.{◌≡◌, ℕ, ℤ, pos, negsuc, ◌-◌, ◌^◌, ◌<◌, Bool, true, false, cond, List, [], ◌∷◌, Some, None, refl, sym, ap, subst, arith}
use Rattle.std.specs.Prelude.{IsTrue, nat_le, int_le, ◌&&◌, FitsSigned}
use Rattle.std.specs.Int.{w32, cast_signed, cast_unsigned}
use Rattle.std.proofs.lemmas.Bool.{ltb-true, lt-ltb, leb-true, le-leb}
use Rattle.std.proofs.lemmas.Int.{to_z-of_z, of_z-to_z}
use Rattle.std.proofs.Math.Facts.{sfits_to_z, Fits-of_z}
use Rattle.tcap_component.specs.declared.problem.Kind.{Kind}
use Rattle.tcap_component.specs.declared.problem.Kind.TheVariants as problem_kind
use Rattle.tcap_component.specs.Problem.{ProblemParts, problem_limit}
use Rattle.tcap_component.specs.Component.{CodeParts, BodyParts}
use Rattle.tcap_component.specs.Component.CodeParts.{local, global}
use Rattle.tcap_invocation.specs.declared.class.Class.{Class}
use Rattle.tcap_invocation.specs.declared.class.Class.TheVariants.{One, Two, Three, Four}
use Rattle.tcap_model.specs.Words.InRange.{is_code, is_problem, is_short}
use Rattle.tcap_model.specs.Words.Request.{Ending, AbortReason}
use Rattle.tcap_record.specs.Fields.{listed, pair, pair_at}
use Rattle.tcap_record.specs.Parts
use Rattle.tcap_record.specs.Parts.{CodeForm, local_form, global_form}
use Rattle.tcap_record.specs.Records.{is_counted_code}
use Rattle.tcap_record.proofs.OctetLemmas.{both_true, true_both}
use Rattle.tcap_record.proofs.FieldLaws.{IsField, IsNaming, CountedFits, named_field}
use Rattle.tcap_record.proofs.ChoiceLaws.{IsView, OfKind, PairFits, pair_field, as_field, choice_field, chosen, respelled}
use Rattle.tcap_record.proofs.PartLaws.{some_is, listed_naming, short_field, octet_string_field, optional_field, OptionFits}

-- ---- codes

-- A code is one, and a global one has fewer octets than 2^32.
abbrev pub CodeFits : CodeParts → Type 0
CodeFits c = IsTrue (is_code c) × IsTrue (is_counted_code c)

abbrev form_of : CodeParts → CodeForm
form_of (local number) = local_form
form_of (global octets) = global_form

abbrev form_octet : CodeForm → ℕ
form_octet local_form = 0
form_octet global_form = 1

abbrev code_part : CodeParts → List ℕ
code_part (local number) = Parts.short (cast_unsigned w32 number)
code_part (global octets) = Parts.octet_string octets

form_naming : IsNaming (λ (f : CodeForm). Unit {0}) form_octet (listed Parts.form_table)
form_naming = listed_naming form_octet Parts.form_table (refl, (refl, tt)) all local_form
  where
    all : (f : CodeForm) → listed Parts.form_table (form_octet f) ≡ Some f
    all local_form = refl
    all global_form = refl

word_fits : (z : ℤ) → IsTrue (int_le (negsuc (2 ^ 31 - 1)) z && int_le z (pos (2 ^ 31 - 1))) → FitsSigned w32 z
word_fits (pos n) h = record { sfits = omega (arith, leb-true n 2147483647 h) }
word_fits (negsuc n) h = record { sfits = omega (arith, leb-true n 2147483647 (both_true (nat_le n 2147483647) true h).0) }

fits_word : (z : ℤ) → FitsSigned w32 z → IsTrue (int_le (negsuc (2 ^ 31 - 1)) z && int_le z (pos (2 ^ 31 - 1)))
fits_word (pos n) h = let small : n < 2 ^ 31 = h.sfits in le-leb n 2147483647 (omega arith)
fits_word (negsuc n) h = let small : n < 2 ^ 31 = h.sfits in true_both (nat_le n 2147483647) true (le-leb n 2147483647 (omega arith)) refl

word_below : (z : ℤ) → FitsSigned w32 z → cast_unsigned w32 z < 2 ^ 32
word_below z h = (Fits-of_z {w = w32} {z = z} h).fits

local_view : IsView (λ (n : ℕ). IsTrue (is_short n)) (OfKind form_of CodeFits local_form) Parts.short code_part Parts.local_of
local_view = record {
  fit = λ n fit. (refl, (fits_word (cast_signed w32 n) (sfits_to_z {w = w32} {n = n} (record { fits = ltb-true n (2 ^ 32) fit })), refl));
  same = λ n fit. ap Parts.short (of_z-to_z w32 n (ltb-true n (2 ^ 32) fit));
  back = λ c fit. back c fit.0 fit.1;
}
  where
    back : (c : CodeParts) → form_of c ≡ local_form → CodeFits c → (n : ℕ) × (Parts.local_of n ≡ c) × IsTrue (is_short n)
    back (local number) e fit = (cast_unsigned w32 number, ap local (to_z-of_z w32 number (word_fits number fit.0)), lt-ltb (cast_unsigned w32 number) (2 ^ 32) (word_below number (word_fits number fit.0)))
    back (global octets) e fit = absurd cc

global_view : IsView (CountedFits (λ (n : ℕ). IsTrue (is_short n))) (OfKind form_of CodeFits global_form) Parts.octet_string code_part global
global_view = record {
  fit = λ octets fit. (refl, fit);
  same = λ octets fit. refl;
  back = λ c fit. back c fit.0 fit.1;
}
  where
    back : (c : CodeParts) → form_of c ≡ global_form → CodeFits c → (octets : List ℕ) × (global octets ≡ c) × CountedFits (λ (n : ℕ). IsTrue (is_short n)) octets
    back (local number) e fit = absurd cc
    back (global octets) e fit = (octets, refl, fit)

pub code_field : IsField CodeFits Parts.code Parts.code_at
unfolding Parts.code_at
code_field =
    respelled CodeFits (chosen form_octet form_of code_part) Parts.code Parts.code_at same
    (choice_field CodeFits form_octet (listed Parts.form_table) form_of code_part Parts.code_part_at form_naming fields)
  where
    same : (c : CodeParts) → Parts.code c ≡ chosen form_octet form_of code_part c
    same (local number) = refl
    same (global octets) = refl

    fields : (f : CodeForm) → IsField (OfKind form_of CodeFits f) code_part (Parts.code_part_at f)
    fields local_form = as_field (λ (n : ℕ). IsTrue (is_short n)) (OfKind form_of CodeFits local_form) Parts.short code_part Parts.local_of Parts.short_at local_view short_field
    fields global_form = as_field (CountedFits (λ (n : ℕ). IsTrue (is_short n))) (OfKind form_of CodeFits global_form) Parts.octet_string code_part global Parts.octet_string_at global_view octet_string_field

-- Octets, fewer than 2^32, where there are any.
abbrev pub StringFits : List ℕ → Type 0
StringFits octets = CountedFits (λ (n : ℕ). IsTrue (is_short n)) octets

-- The code and the parameter of a body fit.
abbrev pub BodyFits : BodyParts → Type 0
BodyFits b = CodeFits b.code × OptionFits StringFits b.parameter

body_view : IsView (PairFits CodeFits (OptionFits StringFits)) BodyFits (pair Parts.code (Parts.optional Parts.octet_string)) Parts.body Parts.body_of
body_view = record {
  fit = λ both fit. fit;
  same = λ both fit. refl;
  back = λ b fit. ((b.code, b.parameter), refl, fit);
}

pub body_field : IsField BodyFits Parts.body Parts.body_at
unfolding Parts.body_at
body_field =
    as_field (PairFits CodeFits (OptionFits StringFits)) BodyFits (pair Parts.code (Parts.optional Parts.octet_string)) Parts.body Parts.body_of
    (pair_at Parts.code_at (Parts.optional_at Parts.octet_string_at)) body_view
    (pair_field CodeFits (OptionFits StringFits) Parts.code (Parts.optional Parts.octet_string) Parts.code_at (Parts.optional_at Parts.octet_string_at)
    code_field (optional_field StringFits Parts.octet_string Parts.octet_string_at octet_string_field))

-- ---- what an octet stands for

pub class_field : IsField (λ (c : Class). Unit {0}) Parts.class Parts.class_at
class_field = named_field (λ (c : Class). Unit {0}) Parts.class_octet (listed Parts.class_table) (listed_naming Parts.class_octet Parts.class_table (refl, (refl, (refl, (refl, tt)))) all One)
  where
    all : (c : Class) → listed Parts.class_table (Parts.class_octet c) ≡ Some c
    all One = refl
    all Two = refl
    all Three = refl
    all Four = refl

kind_field : IsField (λ (k : Kind). Unit {0}) (λ (k : Kind). Parts.kind_octet k ∷ []) Parts.kind_at
kind_field = named_field (λ (k : Kind). Unit {0}) Parts.kind_octet (listed Parts.kind_table) (listed_naming Parts.kind_octet Parts.kind_table (refl, (refl, (refl, (refl, tt)))) all problem_kind.General)
  where
    all : (k : Kind) → listed Parts.kind_table (Parts.kind_octet k) ≡ Some k
    all problem_kind.General = refl
    all problem_kind.Invoke = refl
    all problem_kind.Result = refl
    all problem_kind.Error = refl

problem_code_naming : IsNaming (λ (n : ℕ). IsTrue (nat_le n problem_limit)) (λ (n : ℕ). n) Parts.problem_code
problem_code_naming = record {
  found = λ b x below e. found b x (nat_le b problem_limit) refl e;
  named = λ x fit. rw fit refl;
  one = 0;
  one_fits = refl;
}
  where
    found : (b x : ℕ) (t : Bool) → nat_le b problem_limit ≡ t → cond t (Some b) None ≡ Some x → (x ≡ b) × IsTrue (nat_le x problem_limit)
    found b x true is e = let p = some_is b x e in (sym p, subst (λ (n : ℕ). IsTrue (nat_le n problem_limit)) p is)
    found b x false is e = absurd cc

problem_code_field : IsField (λ (n : ℕ). IsTrue (nat_le n problem_limit)) Parts.octet Parts.problem_code_at
problem_code_field = named_field (λ (n : ℕ). IsTrue (nat_le n problem_limit)) (λ (n : ℕ). n) Parts.problem_code problem_code_naming

problem_view : IsView (PairFits (λ (k : Kind). Unit {0}) (λ (n : ℕ). IsTrue (nat_le n problem_limit))) (λ (p : ProblemParts). IsTrue (is_problem p))
    (pair (λ (k : Kind). Parts.kind_octet k ∷ []) Parts.octet) Parts.problem Parts.problem_of
problem_view = record {
  fit = λ both fit. fit.1;
  same = λ both fit. refl;
  back = λ p fit. ((p.kind, p.code), refl, (tt, fit));
}

pub problem_field : IsField (λ (p : ProblemParts). IsTrue (is_problem p)) Parts.problem Parts.problem_at
unfolding Parts.problem_at
problem_field =
    as_field (PairFits (λ (k : Kind). Unit {0}) (λ (n : ℕ). IsTrue (nat_le n problem_limit))) (λ (p : ProblemParts). IsTrue (is_problem p))
    (pair (λ (k : Kind). Parts.kind_octet k ∷ []) Parts.octet) Parts.problem Parts.problem_of (pair_at Parts.kind_at Parts.problem_code_at) problem_view
    (pair_field (λ (k : Kind). Unit {0}) (λ (n : ℕ). IsTrue (nat_le n problem_limit)) (λ (k : Kind). Parts.kind_octet k ∷ []) Parts.octet Parts.kind_at Parts.problem_code_at kind_field problem_code_field)

pub ending_field : IsField (λ (e : Ending). Unit {0}) Parts.ending Parts.ending_at
ending_field = named_field (λ (e : Ending). Unit {0}) Parts.ending_octet (listed Parts.ending_table) (listed_naming Parts.ending_octet Parts.ending_table (refl, (refl, tt)) all Ending.basic)
  where
    all : (e : Ending) → listed Parts.ending_table (Parts.ending_octet e) ≡ Some e
    all Ending.basic = refl
    all Ending.prearranged = refl

pub reason_field : IsField (λ (r : AbortReason). Unit {0}) Parts.reason Parts.reason_at
reason_field = named_field (λ (r : AbortReason). Unit {0}) Parts.reason_octet (listed Parts.reason_table) (listed_naming Parts.reason_octet Parts.reason_table (refl, (refl, tt)) all AbortReason.by_user)
  where
    all : (r : AbortReason) → listed Parts.reason_table (Parts.reason_octet r) ≡ Some r
    all AbortReason.by_user = refl
    all AbortReason.not_supported = refl
