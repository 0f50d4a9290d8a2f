use Rattle.std.proofs.Common.{◌≡◌, ℕ, List, sym, ◌∙◌, ap, arith}
use Rattle.std.specs.Option.{option_map}
use Rattle.object_identifiers.specs.Arcs.{dotted_text}
use Rattle.object_identifiers.specs.Contents.{arcs_of_numbers}
use Rattle.object_identifiers.proofs.Names.{dotted_again, numbers_named, octets-are}
use Rattle.object_identifiers.proofs.identifier.dotted.Goals as goal

pub returns-in_err-numbers-clause-only : goal.returns-in_err-numbers-clause-only
returns-in_err-numbers-clause-only c text h =
    absurd (let bad = sym (dotted_again text c.args.octets.now h) ∙ ap (option_map (λ (numbers : List ℕ). dotted_text (arcs_of_numbers numbers))) (sym c.in_err-numbers.ensures) in cc)

pub returns-clause-found : goal.returns-clause-found
returns-clause-found c =
    let bytes = octets-are c.args.octets.now (λ (i : ℕ). omega (arith, c.type_inv.octets i)) in
    let named = numbers_named c.args.octets.now c.in_ok-numbers.numbers.items bytes (sym c.in_ok-numbers.ensures) in
    let is : c.written_text.result ≡ dotted_text (arcs_of_numbers c.in_ok-numbers.numbers.items) =
    c.written_text.ensures ∙ ap (λ (w : List ℕ). dotted_text (arcs_of_numbers w)) c.as_slice.ensures.value in
    rw is named

pub returns-clause-only : goal.returns-clause-only
returns-clause-only c text h =
    let is : c.written_text.result ≡ dotted_text (arcs_of_numbers c.in_ok-numbers.numbers.items) =
    c.written_text.ensures ∙ ap (λ (w : List ℕ). dotted_text (arcs_of_numbers w)) c.as_slice.ensures.value in
    let both = sym (dotted_again text c.args.octets.now h) ∙ ap (option_map (λ (numbers : List ℕ). dotted_text (arcs_of_numbers numbers))) (sym c.in_ok-numbers.ensures) in
    cc
