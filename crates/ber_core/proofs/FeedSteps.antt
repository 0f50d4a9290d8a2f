-- What a piece makes of the cut of a stream.
use Rattle.std.proofs.Common.{◌≡◌, ℕ, ◌+◌, ◌-◌, ◌<◌, ◌≤◌, false, List, [], ◌++◌, length, take, drop, Some, None, Ok, Err, refl, sym, ap, ◌∙◌, arith, append_assoc}
use Rattle.std.proofs.lemmas.Bool.{lt-ltb, le-ltb}
use Rattle.std.proofs.lemmas.List.{take-append-drop, take_at, drop_at, length-append, length-take, append-nil, take_all, take-take}
use Rattle.std.proofs.Math.Seq.{take-append-add}
use Rattle.ber_core.specs.declared.fault.BerFault.{BerFault}
use Rattle.ber_core.specs.declared.fault.BerFault.TheVariants.{Short}
use Rattle.ber_core.specs.declared.fault.FeedFault.TheVariants.{Ber, TooLong}
use Rattle.ber_core.specs.declared.scanner.Scanner.{Scanner}
use Rattle.ber_core.specs.HeadReading.{tag_at, head_at}
use Rattle.ber_core.specs.ElementReading.{after_at, element_at}
use Rattle.ber_core.specs.Scanning.{goes_on}
use Rattle.ber_core.specs.Stream.{is_short, cut_into, with_message, cut_by, cut_of}
use Rattle.ber_core.specs.Feeding.{StandsBehind}
use Rattle.ber_core.specs.Pieces.{IsBehind, IsUnderWay}
use Rattle.ber_core.proofs.ScanSteps.{scanner-short}
use Rattle.ber_core.proofs.ResultSteps.{read}
use Rattle.ber_core.proofs.ElementFaults.{after_fails}
use Rattle.ber_core.proofs.ElementGrammar.{after_takes}
use Rattle.ber_core.proofs.CutGrammar.{cut-message, cut-stops}

behind-short : (s : Scanner) (octets : List ℕ) → IsBehind s octets → after_at 32 octets ≡ Err Short
behind-short s octets h = ap (after_at 32) (sym (append-nil octets)) ∙ (sym (h []) ∙ scanner-short s)

-- ---- the element under way

pub under_way-cut : (s : Scanner) (octets : List ℕ) → IsUnderWay s octets → cut_of octets ≡ cut_into [] octets None
under_way-cut s octets h =
    let is : take 65535 octets ≡ octets = take_all 65535 octets h.1 in
    cut-stops octets Short (after_fails 32 (take 65535 octets) Short (ap (after_at 32) is ∙ behind-short s octets h.0))
    ∙ ap (cut_into [] octets) (rw (le-ltb 65535 (length octets) h.1) refl)

front-window : (begun piece : List ℕ) → length begun ≤ 65535 → take 65535 (begun ++ piece) ≡ begun ++ take (65535 - length begun) piece
front-window begun piece h =
    let n : 65535 ≡ length begun + (65535 - length begun) = omega arith in
    ap (λ (k : ℕ). take k (begun ++ piece)) n ∙ take-append-add begun piece (65535 - length begun)

-- the piece goes on where no octet more may be taken
pub under_way-long : (s : Scanner) (begun piece window : List ℕ) → length begun ≤ 65535 → window ≡ take (65535 - length begun) piece → IsBehind s (begun ++ window) → length window < length piece → cut_of (begun ++ piece) ≡ cut_into [] (begun ++ piece) (Some TooLong)
under_way-long s begun piece window le is h lt =
    let front : take 65535 (begun ++ piece) ≡ begun ++ window = front-window begun piece le ∙ ap (λ (w : List ℕ). begun ++ w) (sym is) in
    let long : 65535 < length (begun ++ piece) = omega (arith, length-append begun piece, ap length is, length-take (65535 - length begun) piece) in
    cut-stops (begun ++ piece) Short (after_fails 32 (take 65535 (begun ++ piece)) Short (ap (after_at 32) front ∙ behind-short s (begun ++ window) h))
    ∙ ap (cut_into [] (begun ++ piece)) (rw (lt-ltb 65535 (length (begun ++ piece)) long) refl)

-- the scanner behind the window
pub behind-on : (s t : Scanner) (begun window : List ℕ) → IsBehind s begun → ((more : List ℕ) → goes_on t more ≡ goes_on s (window ++ more)) → IsBehind t (begun ++ window)
behind-on s t begun window h on = λ more. on more ∙ (h (window ++ more) ∙ ap (after_at 32) (sym (append_assoc begun window more)))

-- a fault within the window
pub under_way-fault : (s : Scanner) (begun piece window : List ℕ) (why : BerFault) → IsUnderWay s begun → window ≡ take (65535 - length begun) piece → is_short why ≡ false → ((more : List ℕ) → goes_on s (window ++ more) ≡ Err why) → cut_of (begun ++ piece) ≡ cut_into [] (begun ++ piece) (Some (Ber why))
under_way-fault s begun piece window why h is short on =
    let front : take 65535 (begun ++ piece) ≡ begun ++ (window ++ []) = front-window begun piece h.1 ∙ ap (λ (w : List ℕ). begun ++ w) (sym is ∙ sym (append-nil window)) in
    let fails : after_at 32 (take 65535 (begun ++ piece)) ≡ Err why = ap (after_at 32) front ∙ (sym (h.0 (window ++ [])) ∙ on []) in
    cut-stops (begun ++ piece) why (after_fails 32 (take 65535 (begun ++ piece)) why fails) ∙ ap (cut_into [] (begun ++ piece)) (rw short refl)

-- one list in two ways
front-of : (whole after begun window : List ℕ) → whole ++ after ≡ begun ++ window → length after ≤ length window → (whole ≡ begun ++ take (length window - length after) window) × (after ≡ drop (length window - length after) window)
front-of whole after begun window e le =
    let n = length window - length after in
    let sizes : length whole + length after ≡ length begun + length window = sym (length-append whole after) ∙ (ap length e ∙ length-append begun window) in
    let cut : begun ++ window ≡ (begun ++ take n window) ++ drop n window = ap (λ (w : List ℕ). begun ++ w) (sym (take-append-drop n window)) ∙ sym (append_assoc begun (take n window) (drop n window)) in
    let size : length (begun ++ take n window) ≡ length whole = omega (arith, sizes, length-append begun (take n window), length-take n window) in
    let same : whole ++ after ≡ (begun ++ take n window) ++ drop n window = e ∙ cut in (
      sym (take_at whole after (length whole) refl) ∙ (ap (take (length whole)) same ∙ take_at (begun ++ take n window) (drop n window) (length whole) size),
      sym (drop_at whole after (length whole) refl) ∙ (ap (drop (length whole)) same ∙ drop_at (begun ++ take n window) (drop n window) (length whole) size),
    )

front-part : (piece window : List ℕ) (room m n : ℕ) → window ≡ take room piece → n ≡ m → m ≤ room → take m window ≡ take n piece
front-part piece window room m n is same le = rw (is, same) (take-take m room piece le)

-- a message ends within the window
pub under_way-whole : (s : Scanner) (begun piece window after : List ℕ) (n : ℕ) → IsUnderWay s begun → window ≡ take (65535 - length begun) piece → ((more : List ℕ) → read (after ++ more) ≡ goes_on s (window ++ more)) → length after ≤ length window → n ≡ length window - length after → cut_of (begun ++ piece) ≡ with_message (begun ++ take n piece) (cut_of (drop n piece))
under_way-whole s begun piece window after n h is on le n-is =
    let taken : after_at 32 (begun ++ window) ≡ Ok after =
    ap (after_at 32) (ap (λ (w : List ℕ). begun ++ w) (sym (append-nil window))) ∙ (sym (h.0 (window ++ [])) ∙ (sym (on []) ∙ ap (λ (w : List ℕ). read w) (append-nil after))) in
    let f = after_takes 32 (begun ++ window) after taken in
    let e = f.0 in
    let parts = front-of e.whole after begun window (sym f.2) le in
    let short : length window ≤ length piece = omega (arith, ap length is, length-take (65535 - length begun) piece) in
    let room : length window ≤ 65535 - length begun = omega (arith, ap length is, length-take (65535 - length begun) piece) in
    let first : take (length window - length after) window ≡ take n piece = front-part piece window (65535 - length begun) (length window - length after) n is n-is (omega (arith, room)) in
    let whole : e.whole ≡ begun ++ take n piece = parts.0 ∙ ap (λ (w : List ℕ). begun ++ w) first in
    let size : length e.whole ≤ 65535 = omega (arith, ap length parts.0, length-append begun (take (length window - length after) window), length-take (length window - length after) window, room, h.1) in
    let split : begun ++ piece ≡ e.whole ++ drop n piece = ap (λ (w : List ℕ). begun ++ w) (sym (take-append-drop n piece)) ∙ (sym (append_assoc begun (take n piece) (drop n piece)) ∙ ap (λ (w : List ℕ). w ++ drop n piece) (sym whole)) in
    ap cut_of split ∙ (cut-message e (drop n piece) (f.1, size) ∙ ap (λ (w : List ℕ). with_message w (cut_of (drop n piece))) whole)

-- ---- nothing has come

pub nothing_under_way : (s : Scanner) (octets : List ℕ) → octets ≡ [] → ((more : List ℕ) → goes_on s more ≡ after_at 32 more) → IsUnderWay s octets
nothing_under_way s octets e h = rw e (h, omega arith)

pub nothing_left : (rest : List ℕ) → rest ≡ [] → StandsBehind [] (record { rest = rest; fault = None })
unfolding cut_by element_at after_at head_at tag_at
nothing_left rest e = rw e refl
