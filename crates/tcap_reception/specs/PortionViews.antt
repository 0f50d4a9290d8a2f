-- What a dialogue portion comes to, as a contract sees it.
use Rattle.std.specs.Prelude.{ℕ, ◌∷◌, [], Option, Some, None, option_copied}
use Rattle.ber_core.specs.ObjectIdentifier.{IsObjectIdentifier}
use Rattle.ber_core.specs.Place.{Slice}
use Rattle.ber_core.specs.Way.{IsOnWay}
use Rattle.tcap_model.specs.Procedures.PortionRules as model
use Rattle.tcap_reception.specs.declared.portion.BeginVerdict.{BeginVerdict}
use Rattle.tcap_reception.specs.declared.portion.BeginVerdict.TheVariants as verdict
use Rattle.tcap_reception.specs.declared.portion.PortionVerdict.{PortionVerdict}
use Rattle.tcap_reception.specs.declared.portion.PortionVerdict.TheVariants as portion
use Rattle.tcap_primitives.specs.Slices.{PartsLieIn}

-- The verdict on a dialogue portion, by what its slices hold (own).
abbrev pub portion_view : PortionVerdict → model.PortionVerdict
portion_view (portion.Normal context info) = model.PortionVerdict.normal (option_copied context) info.now
portion_view portion.Abnormal = model.PortionVerdict.abnormal

-- What the dialogue portion of a Begin comes to, as the model says it (own).
abbrev pub begin_view : BeginVerdict → model.BeginVerdict
begin_view verdict.Plain = model.BeginVerdict.plain
begin_view (verdict.Context context info) = model.BeginVerdict.with_context context.now info.now
begin_view (verdict.WrongVersion context) = model.BeginVerdict.wrong_version context.now
begin_view verdict.Abnormal = model.BeginVerdict.abnormal

-- The slices of the verdict are the parts of the PDU with this tag in the dialogue portion
-- (Q.773, Dialogue portion).
abbrev pub PortionIn : ℕ → PortionVerdict → Option Slice → Type 0
PortionIn tag (portion.Normal context info) dialogue = PartsLieIn tag context info dialogue
PortionIn tag portion.Abnormal dialogue = Unit {0}

-- The application context name of the AARQ in the dialogue portion (Q.773, Dialogue portion).
abbrev pub ContextIn : Slice → Option Slice → Type 0
ContextIn context None = ⊥
ContextIn context (Some dialogue) = IsOnWay (0x28 ∷ 0xa0 ∷ 0x60 ∷ 0xa1 ∷ 0x06 ∷ []) context dialogue

-- The slices of the verdict on a Begin are the parts of the AARQ in the dialogue portion
-- (Q.773, Dialogue portion).
abbrev pub BeginIn : BeginVerdict → Option Slice → Type 0
BeginIn verdict.Plain dialogue = Unit {0}
BeginIn (verdict.Context context info) dialogue = PartsLieIn 0x60 (Some context) info dialogue
BeginIn (verdict.WrongVersion context) dialogue = ContextIn context dialogue
BeginIn verdict.Abnormal dialogue = Unit {0}

-- A context that is told is an object identifier (Q.773, Dialogue portion).
abbrev pub BeginNames : BeginVerdict → Type 0
BeginNames verdict.Plain = Unit {0}
BeginNames (verdict.Context context info) = IsObjectIdentifier context.now
BeginNames (verdict.WrongVersion context) = IsObjectIdentifier context.now
BeginNames verdict.Abnormal = Unit {0}
