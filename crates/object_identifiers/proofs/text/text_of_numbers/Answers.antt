use Rattle.std.proofs.Common.{sym, ◌∙◌, ap, ◌++◌, ◌≡◌, ◌∷◌, List, ℕ, ◌-◌, ◌*◌, append_assoc}
use Rattle.std.specs.Fmt.{decimal}
use Rattle.std.specs.List.{flat_map}
use Rattle.object_identifiers.specs.Arcs.{tail_text}
use Rattle.object_identifiers.specs.Contents.{first_arc}
use Rattle.object_identifiers.proofs.TextWriting.{dotted-tails}
use Rattle.object_identifiers.proofs.text.text_of_numbers.Goals as goal

pub returns : goal.returns
returns c =
    let x : ℕ = first_arc c.args.number in
    let y : ℕ = c.args.number - x * 40 in
    let opened : c.push_str.new.self.bytes ≡ decimal x = search (Rattle.std.proofs.Common.rules) in
    let two : c.add_text.new.text.bytes ≡ decimal x ++ tail_text y = search (Rattle.std.proofs.Common.rules, opened) in
    c.add_texts.ensures ∙ (ap (λ (w : List ℕ). w ++ flat_map tail_text c.args.more.now) two
    ∙ (append_assoc (decimal x) (tail_text y) (flat_map tail_text c.args.more.now)
    ∙ sym (dotted-tails x (y ∷ c.args.more.now))))
