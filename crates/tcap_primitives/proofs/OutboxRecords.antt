-- Octets that are added leave what the records of an outbox read, and a record that is added is read behind them.
use Rattle.std.proofs.Common.{◌≡◌, ℕ, ◌+◌, List, [], ◌∷◌, ◌++◌, map, drop, Some, refl, ap, ◌∙◌, append_assoc, add-one, drop-cons}
use Rattle.std.specs.List.{slice_get}
use Rattle.std.proofs.lemmas.Option.{slice_get_within, get_or_from_slice_get}
use Rattle.std.proofs.lemmas.List.{map-append}
use Rattle.tcap_model.specs.Words.Output.{Output}
use Rattle.tcap_primitives.proofs.OutboxLemmas.{part_more, fits_more, option_more, code_more, body_fits_more, result_more, result_fits_more, portion_fits_more, abort_more, abort_fits_more}
use Rattle.tcap_primitives.specs.OutboxReading.{part, output_read}
use Rattle.tcap_primitives.specs.OutboxSpans.{Fits, RecordFits, AllFit}
use Rattle.tcap_primitives.specs.declared.outbox.records.Span.{Span}
use Rattle.tcap_primitives.specs.declared.outbox.records.Record.{Record}
use Rattle.tcap_primitives.specs.declared.outbox.records.Record.TheVariants as kept

pub read_more : (octets more : List ℕ) (r : Record) → RecordFits octets r → output_read (octets ++ more) r ≡ output_read octets r
read_more octets more (kept.Send to bytes) fits =
    rw (part_more octets more to fits.0, part_more octets more bytes fits.1) refl
read_more octets more (kept.Uni portion) fits =
    rw (option_more octets more portion.context fits.0, part_more octets more portion.info fits.1) refl
read_more octets more (kept.Begin d portion) fits =
    rw (option_more octets more portion.context fits.0, part_more octets more portion.info fits.1) refl
read_more octets more (kept.Continue d portion) fits =
    rw (option_more octets more portion.context fits.0, part_more octets more portion.info fits.1) refl
read_more octets more (kept.End d portion) fits =
    rw (option_more octets more portion.context fits.0, part_more octets more portion.info fits.1) refl
read_more octets more (kept.UAbort d pdu) fits = rw (abort_more octets more pdu fits) refl
read_more octets more (kept.PAbort d why) fits = refl
read_more octets more (kept.Invoked d id linked body) fits =
    rw (code_more octets more body.code fits.0, option_more octets more body.parameter fits.1) refl
read_more octets more (kept.ResultMore d number id body) fits = rw (result_more octets more body fits) refl
read_more octets more (kept.LocalReject d id problem) fits = refl
read_more octets more (kept.RemoteReject d id problem by) fits = refl
read_more octets more (kept.ResultLast d number id body) fits = rw (result_more octets more body fits) refl
read_more octets more (kept.ErrorBack d number id body) fits =
    rw (code_more octets more body.code fits.0, option_more octets more body.parameter fits.1) refl
read_more octets more (kept.Rejected d number id problem by) fits = refl
read_more octets more (kept.Lapsed d number id) fits = refl
read_more octets more (kept.Ended d number id) fits = refl
read_more octets more (kept.Dropped why) fits = refl

pub record_fits_more : (octets more : List ℕ) (r : Record) → RecordFits octets r → RecordFits (octets ++ more) r
record_fits_more octets more (kept.Send to bytes) fits = (fits_more octets more to fits.0, fits_more octets more bytes fits.1)
record_fits_more octets more (kept.Uni portion) fits = portion_fits_more octets more portion fits
record_fits_more octets more (kept.Begin d portion) fits = portion_fits_more octets more portion fits
record_fits_more octets more (kept.Continue d portion) fits = portion_fits_more octets more portion fits
record_fits_more octets more (kept.End d portion) fits = portion_fits_more octets more portion fits
record_fits_more octets more (kept.UAbort d pdu) fits = abort_fits_more octets more pdu fits
record_fits_more octets more (kept.PAbort d why) fits = tt
record_fits_more octets more (kept.Invoked d id linked body) fits = body_fits_more octets more body fits
record_fits_more octets more (kept.ResultMore d number id body) fits = result_fits_more octets more body fits
record_fits_more octets more (kept.LocalReject d id problem) fits = tt
record_fits_more octets more (kept.RemoteReject d id problem by) fits = tt
record_fits_more octets more (kept.ResultLast d number id body) fits = result_fits_more octets more body fits
record_fits_more octets more (kept.ErrorBack d number id body) fits = body_fits_more octets more body fits
record_fits_more octets more (kept.Rejected d number id problem by) fits = tt
record_fits_more octets more (kept.Lapsed d number id) fits = tt
record_fits_more octets more (kept.Ended d number id) fits = tt
record_fits_more octets more (kept.Dropped why) fits = tt

pub all_more : (octets more : List ℕ) (rs : List Record) → AllFit octets rs
    → map (output_read (octets ++ more)) rs ≡ map (output_read octets) rs
all_more octets more [] fit = refl
all_more octets more (r ∷ rs) fit = rw (read_more octets more r fit.0, all_more octets more rs fit.1) refl

fit_behind : (octets more : List ℕ) (rs : List Record) (r : Record) → AllFit octets rs → RecordFits (octets ++ more) r
    → AllFit (octets ++ more) (rs ++ r ∷ [])
fit_behind octets more [] r fit fits = (fits, tt)
fit_behind octets more (s ∷ rs) r fit fits = (record_fits_more octets more s fit.0, fit_behind octets more rs r fit.1 fits)

-- The parts of the records still lie within the octets, and so do those of the record behind them.
pub all_fit_behind : (octets more new : List ℕ) (rs after : List Record) (r : Record) → new ≡ octets ++ more → after ≡ rs ++ r ∷ []
    → AllFit octets rs → RecordFits new r → AllFit new after
all_fit_behind octets more new rs after r grown pushed fit fits =
    let fits = (rw grown at fits) in rw (grown, pushed) (fit_behind octets more rs r fit fits)

-- The outputs are those that there were, and that of the record behind them.
pub all_read_behind : (octets more new : List ℕ) (rs after : List Record) (r : Record) (before : List Output) (o : Output)
    → new ≡ octets ++ more → after ≡ rs ++ r ∷ [] → AllFit octets rs
    → map (output_read octets) rs ≡ before → output_read new r ≡ o
    → map (output_read new) after ≡ before ++ o ∷ []
all_read_behind octets more new rs after r before o grown pushed fit said reads =
    let said_more : map (output_read new) rs ≡ before = rw grown (all_more octets more rs fit ∙ said) in
    rw pushed (map-append (output_read new) rs (r ∷ []) ∙ rw (said_more, reads) refl)

-- So do those of the record of a message, whose address and octets were added one behind the other.
pub all_fit_sent : (octets to bytes held new : List ℕ) (rs after : List Record) (a b : Span)
    → held ≡ octets ++ to → new ≡ held ++ bytes → after ≡ rs ++ kept.Send a b ∷ [] → AllFit octets rs
    → Fits held a → Fits new b → AllFit new after
all_fit_sent octets to bytes held new rs after a b kept_to sent pushed fit to_fits bytes_fit =
    let grown : new ≡ octets ++ (to ++ bytes) = rw (sent, kept_to) (append_assoc octets to bytes) in
    let to_still : Fits new a = rw sent (fits_more held bytes a to_fits) in
    all_fit_behind octets (to ++ bytes) new rs after (kept.Send a b) grown pushed fit (to_still, bytes_fit)

-- The outputs are those that there were, and that of the message behind them.
pub all_read_sent : (octets to bytes held new : List ℕ) (rs after : List Record) (a b : Span) (before : List Output)
    → held ≡ octets ++ to → new ≡ held ++ bytes → after ≡ rs ++ kept.Send a b ∷ [] → AllFit octets rs
    → map (output_read octets) rs ≡ before → Fits held a → part held a ≡ to → part new b ≡ bytes
    → map (output_read new) after ≡ before ++ Output.send to bytes ∷ []
all_read_sent octets to bytes held new rs after a b before kept_to sent pushed fit said fits to_read bytes_read =
    let grown : new ≡ octets ++ (to ++ bytes) = rw (sent, kept_to) (append_assoc octets to bytes) in
    let to_still : part new a ≡ to = rw sent (part_more held bytes a fits ∙ to_read) in
    all_read_behind octets (to ++ bytes) new rs after (kept.Send a b) before (Output.send to bytes) grown pushed fit said
    (ap (λ x. Output.send x (part new b)) to_still ∙ ap (Output.send to) bytes_read)

-- What stands at an index is the first of what is left from there on.
pub next_left : {X : Type 0} (xs : List X) (i : ℕ) (x : X) → slice_get xs i ≡ Some x → drop i xs ≡ x ∷ drop (i + 1) xs
next_left xs i x found =
    drop-cons xs i x (slice_get_within xs i x found) ∙ rw (get_or_from_slice_get xs i x x found, add-one i) refl
