-- A text that names an object identifier is of ASCII characters.
use Rattle.std.proofs.Common.{inl, inr, ◌≡◌, ℕ, ◌≤◌, List, [], ◌∷◌, sym, subst, arith}
use Rattle.std.specs.Fmt.{decimal}
use Rattle.std.specs.List.{AllByRecursion}
use Rattle.std.specs.Str.{IsAscii, IsUtf8}
use Rattle.std.proofs.lemmas.Fmt.{IsAscii-decimal}
use Rattle.std.proofs.lemmas.Str.{IsAscii-append, IsUtf8-from_ascii}
use Rattle.std.proofs.lemmas.Str.Ascii.{IsAscii-cons}
use Rattle.std.specs.Prelude.{Result, Ok, Err, IsOkAnd, IsSomeAnd}
use Rattle.std.specs.Result.{result_ok}
use Rattle.object_identifiers.specs.Arcs.{AreArcs, NamesOctets, dotted_text, numbers_of_arcs}
use Rattle.object_identifiers.specs.declared.fault.ObjectIdentifierFault.{ObjectIdentifierFault}

number_ascii : (n : ℕ) → n ≤ 4294967295 → IsAscii (decimal n)
number_ascii n small = IsAscii-decimal n (omega (arith, small))

arcs_ascii : (x : ℕ) (more : List ℕ) → x ≤ 4294967295 → AllByRecursion (λ (n : ℕ). n ≤ 4294967295) more → IsAscii (dotted_text (x ∷ more))
arcs_ascii x [] small all = number_ascii x small
arcs_ascii x (y ∷ more) small all =
    IsAscii-append (decimal x) (46 ∷ dotted_text (y ∷ more)) (number_ascii x small)
    (IsAscii-cons 46 (dotted_text (y ∷ more)) (omega arith) (arcs_ascii y more all.0 all.1))

text_ascii : (arcs : List ℕ) → AreArcs arcs → AllByRecursion (λ (n : ℕ). n ≤ 4294967295) (numbers_of_arcs arcs) → IsAscii (dotted_text arcs)
text_ascii [] are all = absurd are
text_ascii (x ∷ []) are all = absurd are
text_ascii (x ∷ (y ∷ more)) (inl low) all =
    arcs_ascii x (y ∷ more) (omega (arith, low.0)) (omega (arith, low.1), all.1)
text_ascii (x ∷ (y ∷ more)) (inr two) all =
    arcs_ascii x (y ∷ more) (omega (arith, two)) (omega (arith, all.0), all.1)

pub named_text : (text octets : List ℕ) → NamesOctets text octets → IsUtf8 text
named_text text octets names =
    subst IsUtf8 (sym names.is_text) (IsUtf8-from_ascii (dotted_text names.arcs)
    (text_ascii names.arcs names.spelled.are_arcs names.are_small))

pub ok_is : (read : Result (List ℕ) ObjectIdentifierFault) (octets : List ℕ) → IsOkAnd read (λ o. o ≡ octets)
    → IsSomeAnd (result_ok read) (λ o. o ≡ octets)
ok_is (Ok o) octets is = is
ok_is (Err fault) octets is = absurd is
