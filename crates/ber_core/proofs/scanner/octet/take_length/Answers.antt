use Rattle.std.proofs.Common.{◌∷◌, None, refl, sym, ◌∙◌}
use Rattle.ber_core.specs.Scanning.{at_length, at_body}
use Rattle.ber_core.proofs.ScannerSteps.{leads_as}
use Rattle.ber_core.proofs.ScannerLengths.{length-primitive, length-indefinite, length-reserved, length-short_form, length-long_form}
use Rattle.ber_core.proofs.scanner.octet.take_length.Goals as goal

pub returns-then-not-constructed : goal.returns-then-not-constructed
returns-then-not-constructed c = (refl, λ rest. length-primitive c.args.constructed c.args.nested c.args.octet rest c.if-octet-eq128.true c.if-not-constructed.true)

pub returns-then-octet-eq128 : goal.returns-then-octet-eq128
returns-then-octet-eq128 c = leads_as (λ rest. at_body c.args.nested (None, rest)) (λ rest. at_length c.args.constructed c.args.nested (c.args.octet ∷ rest)) c.behind_indefinite.result (λ rest. sym (length-indefinite c.args.constructed c.args.nested c.args.octet rest c.if-octet-eq128.true c.if-not-constructed.false)) c.behind_indefinite.ensures

pub returns-then-octet-eq255 : goal.returns-then-octet-eq255
returns-then-octet-eq255 c = (refl, λ rest. length-reserved c.args.constructed c.args.nested c.args.octet rest c.if-octet-eq255.true)

pub returns-then-octet-lt128 : goal.returns-then-octet-lt128
returns-then-octet-lt128 c = λ rest. c.behind_definite.ensures rest ∙ sym (length-short_form c.args.constructed c.args.nested c.args.octet rest c.if-octet-lt128.true)

pub returns : goal.returns
returns c = λ rest. c.due_at.ensures rest ∙ sym (length-long_form c.args.constructed c.args.nested c.args.octet rest c.if-octet-eq128.false c.if-octet-eq255.false c.if-octet-lt128.false)
