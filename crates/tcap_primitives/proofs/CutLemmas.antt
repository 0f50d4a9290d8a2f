-- The octets of a queue, cut into its components.
use Rattle.std.proofs.Common.{◌≡◌, ℕ, ◌+◌, ◌≤◌, ◌<◌, Bool, ◌&&◌, List, [], ◌∷◌, ◌++◌, length, take, drop, Option, refl, sym, ap, ◌∙◌, arith}
use Rattle.std.proofs.Math.Seq.{take-length}
use Rattle.std.proofs.lemmas.Bool.Decides.{nat_tests}
use Rattle.std.proofs.lemmas.List.{take-append-le, drop-append-le, take-append-drop, length-drop}
use Rattle.tcap_model.specs.Procedures.QueueRules.{Queued, queue_limit, queue_if_fits}
use Rattle.std.specs.List.{list_all}
use Rattle.std.specs.Option.{option_map}
use Rattle.tcap_model.specs.Procedures.QueueRules.{can_go_alone, goes_alone, joined}
use Rattle.tcap_primitives.specs.declared.queue.Part.{Part}
use Rattle.tcap_primitives.specs.declared.queue.Invoking.{Invoking}
use Rattle.tcap_primitives.specs.Parts.{total}
use Rattle.tcap_primitives.specs.QueueViews.{cut, part_view, invoking_view}

-- One component more, at the end of both lists.
pub cut-append : (parts : List Part) (all octets : List ℕ) (invoking : Option Invoking) → total parts ≡ length all →
    cut (parts ++ (record { len = length octets; invoking = invoking }) ∷ []) (all ++ octets) ≡ cut parts all ++ (record { octets = octets; invoking = option_map invoking_view invoking }) ∷ []
cut-append [] [] octets invoking whole =
    ap (λ (o : List ℕ). let q : Queued = record { octets = o; invoking = option_map invoking_view invoking } in q ∷ []) (take-length octets)
cut-append [] (b ∷ all) octets invoking whole = absurd (omega arith)
cut-append (p ∷ parts) all octets invoking whole =
    let within : p.len ≤ length all = omega (arith, whole) in
    let rest : total parts ≡ length (drop p.len all) = omega (arith, whole, length-drop p.len all) in
    let more = cut-append parts (drop p.len all) octets invoking rest in
    let one : part_view p (all ++ octets) ≡ part_view p all = ap (λ (o : List ℕ). let q : Queued = record { octets = o; invoking = option_map invoking_view p.invoking } in q) (take-append-le p.len all octets within) in
    let dropped = drop-append-le p.len all octets within in
    cc (one, dropped, more)

-- The same, where the part says how many octets there are.
pub cut-counted : (parts : List Part) (all octets : List ℕ) (len : ℕ) (invoking : Option Invoking) → total parts ≡ length all → len ≡ length octets →
    cut (parts ++ (record { len = len; invoking = invoking }) ∷ []) (all ++ octets) ≡ cut parts all ++ (record { octets = octets; invoking = option_map invoking_view invoking }) ∷ []
cut-counted parts all octets len invoking whole is = rw is (cut-append parts all octets invoking whole)

-- The components are all the octets.
pub cut-joined : (parts : List Part) (all : List ℕ) → total parts ≡ length all → joined (cut parts all) ≡ all
cut-joined [] [] whole = refl
cut-joined [] (b ∷ all) whole = absurd (omega arith)
cut-joined (p ∷ parts) all whole =
    let rest : total parts ≡ length (drop p.len all) = omega (arith, whole, length-drop p.len all) in
    ap (λ (o : List ℕ). take p.len all ++ o) (cut-joined parts (drop p.len all) rest) ∙ take-append-drop p.len all

pub total-append : (parts : List Part) (p : Part) → total (parts ++ p ∷ []) ≡ total parts + p.len
total-append [] p = omega arith
total-append (q ∷ parts) p = let h = total-append parts p in omega arith

-- A component that fits is appended.
pub cut-fits : (parts : List Part) (all : List ℕ) (c : Queued) → total parts ≡ length all → length all + length c.octets ≤ queue_limit →
    queue_if_fits queue_limit (cut parts all) c ≡ cut parts all ++ c ∷ []
cut-fits parts all c whole within = rw (cut-joined parts all whole) (grind (arith, nat_tests))

-- One that doesn't fit is left out.
pub cut-full : (parts : List Part) (all : List ℕ) (c : Queued) → total parts ≡ length all → queue_limit < length all + length c.octets →
    queue_if_fits queue_limit (cut parts all) c ≡ cut parts all
cut-full parts all c whole above = rw (cut-joined parts all whole) (grind (arith, nat_tests))

-- Whether the components may go alone, by what they ask for.
pub cut-alone : (parts : List Part) (all : List ℕ) → list_all (λ (c : Queued). goes_alone c.invoking) (cut parts all) ≡ list_all (λ (p : Part). goes_alone (option_map invoking_view p.invoking)) parts
cut-alone [] all = refl
cut-alone (p ∷ parts) all = ap (λ (b : Bool). goes_alone (option_map invoking_view p.invoking) && b) (cut-alone parts (drop p.len all))

pub alone-filled : (parts : List Part) (all : List ℕ) → 0 < length parts → list_all (λ (p : Part). goes_alone (option_map invoking_view p.invoking)) parts ≡ can_go_alone (cut parts all)
alone-filled [] all filled = absurd (omega (arith, filled))
alone-filled (p ∷ parts) all filled = sym (cut-alone (p ∷ parts) all)
