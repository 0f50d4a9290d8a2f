use Rattle.std.proofs.Common.{◌≡◌, ◌∙◌, ℕ, Bool, true, false, List, Option, Some, None, Err, ok_or, if◌then◌else◌, refl, sym}
use Rattle.std.specs.Result.{result_ok}
use Rattle.tcap_component.specs.declared.component.Form.{Form}
use Rattle.tcap_component.specs.Component.{ComponentParts}
use Rattle.tcap_component.specs.ComponentReading.{contents_at, form_at, is_structured, verdict_by}
use Rattle.tcap_component.proofs.ComponentGrammar.{verdict_read}
use Rattle.tcap_component.proofs.component.take.component_of.Goals as goal

abbrev none : Option ComponentParts
none = None

fault-untaken : (structured : Bool) → none ≡ result_ok {E = ℕ} (if structured then ok_or none 1 else Err 2)
fault-untaken true = refl
fault-untaken false = refl

-- by its contents alone, whatever the code of a fault is
taken : (tag content : List ℕ) (f : Form) (o : Option ComponentParts) → form_at tag ≡ Some f → contents_at f content ≡ o → o ≡ result_ok (verdict_by (form_at tag) content)
taken tag content f (Some c) t h = rw (verdict_read tag content f c t h) refl
taken tag content f None t h = rw (t, h) (fault-untaken (is_structured f content))

pub returns-in-Some : goal.returns-in-Some
returns-in-Some c = c.read_contents.ensures.value ∙ taken c.args.octets.now c.args.content.now c.in-Some.form _ (sym c.form_of.ensures ∙ c.in-Some.is) refl
