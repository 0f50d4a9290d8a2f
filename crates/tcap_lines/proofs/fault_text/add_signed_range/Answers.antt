use Rattle.std.proofs.Common.{codes, string_bytes, ◌++◌, w32}
use Rattle.std.proofs.lemmas.Int.{to_z-of_z}
use Rattle.std.specs.Fmt.{signed_decimal}
use Rattle.tcap_words.proofs.CallerLemmas.{after_one, after_two}
use Rattle.tcap_lines.proofs.fault_text.add_signed_range.Goals as goal

pub returns : goal.returns
returns g c =
    let least = to_z-of_z w32 c.args.least c.ranges.least in
    let most = to_z-of_z w32 c.args.most c.ranges.most in
    let first = rw least at c.in_ok-add_limit.ensures in
    let last = rw most at c.add_limit-2.ensures in
    after_one c.add_limit-2.result (string_bytes c.args.text.now) (string_bytes c.push_str.new.self) (string_bytes c.add_limit-2.new.text) (codes "a number from ") (signed_decimal c.args.least ++ (codes " to " ++ signed_decimal c.args.most)) c.in_ok-push_str.ensures.bytes
    (after_two c.add_limit-2.result (string_bytes c.push_str.new.self) (string_bytes c.add_limit.new.text) (string_bytes c.push_str-2.new.self) (string_bytes c.add_limit-2.new.text) (signed_decimal c.args.least) (codes " to ") (signed_decimal c.args.most)
    first c.in_ok-push_str-2.ensures.bytes last)
