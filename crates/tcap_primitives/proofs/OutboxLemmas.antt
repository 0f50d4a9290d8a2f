-- Octets that are added leave what the parts of an outbox's records read.
use Rattle.std.proofs.Common.{◌≡◌, ℕ, ◌≤◌, List, ◌++◌, length, take, drop, refl, ap, ◌∙◌, arith, length-append, Option, None, Some}
use Rattle.std.specs.Option.{option_map}
use Rattle.std.proofs.lemmas.List.{take-append-le, drop-append-le, length-drop}
use Rattle.tcap_primitives.specs.OutboxReading.{part, code_read, body_read, pdu_read}
use Rattle.tcap_primitives.specs.OutboxSpans.{Fits, OptionFits, CodeFits, BodyFits, ResultFits, PortionFits, PduFits, AbortFits}
use Rattle.tcap_primitives.specs.declared.outbox.records.Span.{Span}
use Rattle.tcap_primitives.specs.declared.outbox.records.CodeRecord.{CodeRecord}
use Rattle.tcap_primitives.specs.declared.outbox.records.CodeRecord.TheVariants as code
use Rattle.tcap_primitives.specs.declared.outbox.records.BodyRecord.{BodyRecord}
use Rattle.tcap_primitives.specs.declared.outbox.records.PduRecord.{PduRecord}
use Rattle.tcap_primitives.specs.declared.outbox.records.PduRecord.TheVariants as pdu
use Rattle.tcap_primitives.specs.declared.outbox.records.PortionRecord.{PortionRecord}

pub part_more : (octets more : List ℕ) (span : Span) → Fits octets span → part (octets ++ more) span ≡ part octets span
part_more octets more span fits =
    let room : span.len ≤ length (drop span.at octets) = omega (arith, fits, length-drop span.at octets) in
    ap (take span.len) (drop-append-le span.at octets more (omega (arith, fits)))
    ∙ take-append-le span.len (drop span.at octets) more room

pub fits_more : (octets more : List ℕ) (span : Span) → Fits octets span → Fits (octets ++ more) span
fits_more octets more span fits = omega (arith, fits, length-append octets more)

pub option_more : (octets more : List ℕ) (span : Option Span) → OptionFits octets span
    → option_map (part (octets ++ more)) span ≡ option_map (part octets) span
option_more octets more None fits = refl
option_more octets more (Some span) fits = ap Some (part_more octets more span fits)

pub option_fits_more : (octets more : List ℕ) (span : Option Span) → OptionFits octets span → OptionFits (octets ++ more) span
option_fits_more octets more None fits = tt
option_fits_more octets more (Some span) fits = fits_more octets more span fits

pub code_more : (octets more : List ℕ) (c : CodeRecord) → CodeFits octets c → code_read (octets ++ more) c ≡ code_read octets c
code_more octets more (code.Local number) fits = refl
code_more octets more (code.Global span) fits = rw (part_more octets more span fits) refl

pub code_fits_more : (octets more : List ℕ) (c : CodeRecord) → CodeFits octets c → CodeFits (octets ++ more) c
code_fits_more octets more (code.Local number) fits = tt
code_fits_more octets more (code.Global span) fits = fits_more octets more span fits

pub body_more : (octets more : List ℕ) (body : BodyRecord) → BodyFits octets body → body_read (octets ++ more) body ≡ body_read octets body
body_more octets more body fits =
    rw (code_more octets more body.code fits.0, option_more octets more body.parameter fits.1) refl

pub body_fits_more : (octets more : List ℕ) (body : BodyRecord) → BodyFits octets body → BodyFits (octets ++ more) body
body_fits_more octets more body fits =
    (code_fits_more octets more body.code fits.0, option_fits_more octets more body.parameter fits.1)

pub result_more : (octets more : List ℕ) (body : Option BodyRecord) → ResultFits octets body
    → option_map (body_read (octets ++ more)) body ≡ option_map (body_read octets) body
result_more octets more None fits = refl
result_more octets more (Some body) fits = ap Some (body_more octets more body fits)

pub result_fits_more : (octets more : List ℕ) (body : Option BodyRecord) → ResultFits octets body → ResultFits (octets ++ more) body
result_fits_more octets more None fits = tt
result_fits_more octets more (Some body) fits = body_fits_more octets more body fits

pub portion_fits_more : (octets more : List ℕ) (portion : PortionRecord) → PortionFits octets portion → PortionFits (octets ++ more) portion
portion_fits_more octets more portion fits =
    (option_fits_more octets more portion.context fits.0, fits_more octets more portion.info fits.1)

pub pdu_more : (octets more : List ℕ) (p : PduRecord) → PduFits octets p → pdu_read (octets ++ more) p ≡ pdu_read octets p
pdu_more octets more (pdu.Aarq version1 context info) fits =
    rw (part_more octets more context fits.0, part_more octets more info fits.1) refl
pdu_more octets more (pdu.Audt version1 context info) fits =
    rw (part_more octets more context fits.0, part_more octets more info fits.1) refl
pdu_more octets more (pdu.Aare version1 context accepted diagnostic info) fits =
    rw (part_more octets more context fits.0, part_more octets more info fits.1) refl
pdu_more octets more (pdu.Abrt by_provider info) fits = rw (part_more octets more info fits) refl
pdu_more octets more (pdu.Foreign external) fits = rw (part_more octets more external fits) refl

pub pdu_fits_more : (octets more : List ℕ) (p : PduRecord) → PduFits octets p → PduFits (octets ++ more) p
pdu_fits_more octets more (pdu.Aarq version1 context info) fits =
    (fits_more octets more context fits.0, fits_more octets more info fits.1)
pdu_fits_more octets more (pdu.Audt version1 context info) fits =
    (fits_more octets more context fits.0, fits_more octets more info fits.1)
pdu_fits_more octets more (pdu.Aare version1 context accepted diagnostic info) fits =
    (fits_more octets more context fits.0, fits_more octets more info fits.1)
pdu_fits_more octets more (pdu.Abrt by_provider info) fits = fits_more octets more info fits
pdu_fits_more octets more (pdu.Foreign external) fits = fits_more octets more external fits

pub abort_more : (octets more : List ℕ) (p : Option PduRecord) → AbortFits octets p
    → option_map (pdu_read (octets ++ more)) p ≡ option_map (pdu_read octets) p
abort_more octets more None fits = refl
abort_more octets more (Some p) fits = ap Some (pdu_more octets more p fits)

pub abort_fits_more : (octets more : List ℕ) (p : Option PduRecord) → AbortFits octets p → AbortFits (octets ++ more) p
abort_fits_more octets more None fits = tt
abort_fits_more octets more (Some p) fits = pdu_fits_more octets more p fits
