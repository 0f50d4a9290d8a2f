use Rattle.std.proofs.Common.{◌≡◌, Ok, Err, sym, ◌∙◌, ap}
use Rattle.ber_core.specs.Results.{◌>>=◌}
use Rattle.object_identifiers.specs.Contents.{contents_at}
use Rattle.object_identifiers.specs.TextReading.{arcs_at}
use Rattle.object_identifiers.proofs.Names.{arcs-identify, named, named_again}
use Rattle.object_identifiers.proofs.identifier.object_identifier.Goals as goal

pub returns-in_err-arcs-clause-only : goal.returns-in_err-arcs-clause-only
returns-in_err-arcs-clause-only c octets h =
    let read : arcs_at c.args.text.now ≡ Err c.in_err-arcs.field-0.0 = ap arcs_at (sym c.as_bytes.ensures.value) ∙ c.in_err-arcs.ensures in
    absurd (let bad = sym (named_again c.args.text.now octets h) ∙ ap (λ r. r >>= contents_at) read in cc)

pub returns-in_err-octets-clause-only : goal.returns-in_err-octets-clause-only
returns-in_err-octets-clause-only c octets h =
    let read : arcs_at c.args.text.now ≡ Ok c.in_ok-arcs.arcs.items = ap arcs_at (sym c.as_bytes.ensures.value) ∙ c.in_ok-arcs.ensures in
    let written : contents_at c.in_ok-arcs.arcs.items ≡ Err c.in_err-octets.field-0.0 = ap contents_at (sym c.as_slice.ensures.value) ∙ c.in_err-octets.ensures in
    absurd (let bad = sym (named_again c.args.text.now octets h) ∙ (ap (λ r. r >>= contents_at) read ∙ written) in cc)

pub returns-clause-found : goal.returns-clause-found
returns-clause-found c =
    let read : arcs_at c.args.text.now ≡ Ok c.in_ok-arcs.arcs.items = ap arcs_at (sym c.as_bytes.ensures.value) ∙ c.in_ok-arcs.ensures in
    let written : contents_at c.in_ok-arcs.arcs.items ≡ Ok c.in_ok-octets.octets.items = ap contents_at (sym c.as_slice.ensures.value) ∙ c.in_ok-octets.ensures in
    named c.args.text.now c.in_ok-arcs.arcs.items c.in_ok-octets.octets.items read written

pub returns-clause-identifier : goal.returns-clause-identifier
returns-clause-identifier c = let n = returns-clause-found c in arcs-identify n.arcs c.in_ok-octets.octets.items n.spelled

pub returns-clause-only : goal.returns-clause-only
returns-clause-only c octets h =
    let read : arcs_at c.args.text.now ≡ Ok c.in_ok-arcs.arcs.items = ap arcs_at (sym c.as_bytes.ensures.value) ∙ c.in_ok-arcs.ensures in
    let written : contents_at c.in_ok-arcs.arcs.items ≡ Ok c.in_ok-octets.octets.items = ap contents_at (sym c.as_slice.ensures.value) ∙ c.in_ok-octets.ensures in
    let both = sym (ap (λ r. r >>= contents_at) read ∙ written) ∙ named_again c.args.text.now octets h in
    cc
