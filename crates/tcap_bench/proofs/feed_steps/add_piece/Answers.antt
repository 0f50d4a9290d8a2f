use Rattle.std.proofs.Common.{◌∙◌, ap, length, map}
use Rattle.tcap_bench.proofs.Fed.{lengths-of}
use Rattle.tcap_bench.specs.Checksum.{checksum}
use Rattle.tcap_bench.proofs.feed_steps.add_piece.Goals as goal

pub returns-in-Ok : goal.returns-in-Ok
returns-in-Ok c stream stands =
    let completes = c.in-Ok.ensures.ok stream stands in
    record {
      told = map (λ m. m.items) c.in-Ok.messages.items;
      takes = completes.0;
      is_sum = c.add_messages.ensures ∙ ap (λ ms. checksum c.args.sum (map (λ m. length m.items) ms)) c.as_slice.ensures.value ∙ ap (checksum c.args.sum) (lengths-of (λ m. m.items) c.in-Ok.messages.items);
    }
