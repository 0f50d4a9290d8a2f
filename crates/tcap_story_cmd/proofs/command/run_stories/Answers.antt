use Rattle.std.proofs.Common.{◌≡◌, ◌∙◌, Err, None, ap, map, option_map, refl, subst, sym}
use Rattle.tcap_story_cmd.specs.Command.{DoneFor}
use Rattle.tcap_story_cmd.specs.CommandLine.{asked, asked_by}
use Rattle.tcap_story_cmd.specs.declared.refusal.Refusal.TheVariants as refusal
use Rattle.tcap_story_cmd.proofs.TellingLemmas.{keeps_none}
use Rattle.tcap_story_cmd.proofs.command.run_stories.Goals as goal

pub returns-in_default : goal.returns-in_default
returns-in_default g c =
    let octets_of = g.S.Sources.octets_of c.args.sources.now in
    let left = g.R.Read.remaining c.args.reader.now in
    let held = g.W.Write.contents c.args.out.now in
    let words = map (λ w. w.now) c.args.words.now in
    let none : None ≡ asked_by words = ap (option_map asked) (sym c.in_default.is) ∙ c.read_words.ensures in
    (Err refusal.BadCommand, c.report.ensures, subst (λ a. DoneFor a octets_of left left held held (Err refusal.BadCommand)) none (refl, keeps_none held, refl))
