use Rattle.std.proofs.Common.{rules, ◌≡◌, ◌++◌, ◌∙◌, sym, true, false, string_bytes}
use Rattle.tcap_play.specs.Pieces.{is_skipped}
use Rattle.tcap_play.specs.Play.{bad_line}
use Rattle.tcap_play.proofs.PlayLines.{skips, goes, ends}
use Rattle.tcap_play.proofs.play.go_on.Goals as goal

pub returns-then-is_skipped : goal.returns-then-is_skipped
returns-then-is_skipped g c p at =
    let is : is_skipped c.args.line.now ≡ true = sym c.is_skipped.ensures ∙ c.if-is_skipped.true in
    skips c.args.number c.args.line.now p c.args.a.now c.args.b.now (string_bytes c.args.text.now) is at

pub returns-then-branch : goal.returns-then-branch
returns-then-branch g c p at =
    let is : is_skipped c.args.line.now ≡ false = sym c.is_skipped.ensures ∙ c.if-is_skipped.false in
    goes c.args.number c.args.line.now p c.act_by.new.a c.act_by.new.b (string_bytes c.args.text.now) (string_bytes c.act_by.new.text) is (rw (sym c.if-branch.true) (c.in_ok-act_by.ensures p at))

pub returns : goal.returns
returns g c p at =
    let is : is_skipped c.args.line.now ≡ false = sym c.is_skipped.ensures ∙ c.if-is_skipped.false in
    let told : string_bytes c.write.new.self ≡ string_bytes c.act_by.new.text ++ bad_line c.args.number = search rules in
    ends c.args.number c.args.line.now p c.act_by.new.a c.act_by.new.b (string_bytes c.args.text.now) (string_bytes c.act_by.new.text) (string_bytes c.write.new.self) is (rw (sym c.if-branch.false) (c.in_ok-act_by.ensures p at)) told
