-- The contents of each message, read and in order.
use Rattle.std.proofs.Common.{◌≡◌, ℕ, ◌<◌, ◌≤◌, true, cond, eqb, ltb, leb, List, [], ◌∷◌, length, Option, Some, None, unwrap_or, refl, ap, subst, ◌∙◌, arith, ltb-false, le-ltb, ne_eqb}
use Rattle.std.proofs.lemmas.Bool.{eqb-false}
use Rattle.std.proofs.lemmas.Bool.Decides.{nat_tests}
use Rattle.ber_core.specs.Options.{◌>>=◌}
use Rattle.ber_core.specs.Sequence.{SpellsSequence}
use Rattle.ber_core.specs.Sequence.Field.{must, may, filled}
use Rattle.ber_core.specs.SequenceReading.{tagged, content_at, ending}
use Rattle.ber_core.proofs.CallerLemmas.{some, some_is, not_some, bind_some, guard_some, test_some, ending-is, ending-again, may_takes, filled_takes, must_takes, end_takes, may_again, must_again, filled_again, end_again, content_at-is, must-longer, other_first}
use Rattle.tcap_pdu.specs.TransId.{IsTransId, id_of}
use Rattle.tcap_pdu.specs.FrameSpelling.{Reason, Message, message_tag, fields, reason_fields, IsReason, HasIds, HasCause}
use Rattle.tcap_pdu.specs.FrameSpelling.Reason.{nothing, cause, portion}
use Rattle.tcap_pdu.specs.FrameSpelling.Message.{unidirectional, begin, end, go_on, abort}
use Rattle.tcap_pdu.specs.FrameReading.{with_rest, id_at, pair, portions_at, cause_at, reason_by, reason_at, unidirectional_at, begin_at, end_at, go_on_at, abort_at, message_at, type_at}
use Rattle.tcap_pdu.specs.declared.frame.read.MessageType.{MessageType}
use Rattle.tcap_pdu.specs.declared.frame.read.MessageType.TheVariants as kind

-- ---- identifiers

pub id_of-is : (octets id : List ℕ) → id_of octets ≡ Some id → (octets ≡ id) × IsTransId octets
id_of-is octets id e =
    let g = guard_some (eqb (length octets) 0) (cond (ltb 4 (length octets)) None (some octets)) id e in
    let l = guard_some (ltb 4 (length octets)) (some octets) id g.1 in
    let filled : length octets ≡ 0 → ⊥ = eqb-false (length octets) 0 g.0 in
    let short : length octets ≤ 4 = ltb-false 4 (length octets) l.0 in
    (some_is octets id l.1, (omega (arith, filled), short))

pub id_of-again : (octets : List ℕ) → IsTransId octets → id_of octets ≡ Some octets
id_of-again octets h = rw (ne_eqb (length octets) 0 (λ z. absurd (omega (arith, h.0))), le-ltb 4 (length octets) h.1) refl

id_takes : (tag : ℕ) (bytes : List ℕ) (c : List ℕ × List ℕ) → id_at tag bytes ≡ Some c → (content_at tag bytes ≡ Some c) × IsTransId c.0
unfolding id_at
id_takes tag bytes c e =
    let b = bind_some (content_at tag bytes) (λ d. id_of d.0 >>= (λ id. some (with_rest id d.1))) c e in
    let i = bind_some (id_of b.0.0) (λ id. some (with_rest id b.0.1)) c b.2 in
    let is = id_of-is b.0.0 i.0 i.1 in
    let same : b.0 ≡ c = ap (λ (x : List ℕ). with_rest x b.0.1) is.0 ∙ some_is (with_rest i.0 b.0.1) c i.2 in
    (b.1 ∙ ap (λ (d : List ℕ × List ℕ). some d) same, subst (λ (d : List ℕ × List ℕ). IsTransId d.0) same is.1)

id_again : (tag : ℕ) (bytes id rest : List ℕ) → content_at tag bytes ≡ Some (id, rest) → IsTransId id → id_at tag bytes ≡ Some (id, rest)
unfolding id_at
id_again tag bytes id rest e h = rw e (rw (id_of-again id h) refl)

-- ---- 6B and 6C

portions_takes : (bytes : List ℕ) (p : Option (List ℕ) × List ℕ) → portions_at bytes ≡ Some p → SpellsSequence (may 0x6b p.0 ∷ filled 0x6c p.1 ∷ []) bytes
unfolding portions_at
portions_takes bytes p e =
    let rest = (tagged 0x6b bytes).1 in
    let z = ending-is (pair (tagged 0x6b bytes).0 (unwrap_or (tagged 0x6c rest).0 [])) p (tagged 0x6c rest).1 e in
    subst (λ (q : Option (List ℕ) × List ℕ). SpellsSequence (may 0x6b q.0 ∷ filled 0x6c q.1 ∷ []) bytes) z.1
    (may_takes 0x6b _ bytes (filled_takes 0x6c [] rest (end_takes (tagged 0x6c rest).1 z.0)))

portions_again : (d : Option (List ℕ)) (c bytes : List ℕ) → SpellsSequence (may 0x6b d ∷ filled 0x6c c ∷ []) bytes → portions_at bytes ≡ Some (d, c)
unfolding portions_at
portions_again d c bytes l =
    let r = may_again 0x6b d (filled 0x6c c ∷ []) bytes (refl, tt) l in
    let s = filled_again 0x6c c [] (tagged 0x6b bytes).1 tt r.1 in
    rw (r.0, s.0) (ending-again (pair d c) (tagged 0x6c (tagged 0x6b bytes).1).1 (end_again _ s.1))

-- ---- what follows the destination of an Abort

below : (m n : ℕ) → leb m 0x7f ≡ true → m ≡ n → n ≤ 0x7f
below m n t same = grind (arith, nat_tests)

cause-is : (content : List ℕ) (r : Reason) → cause_at content ≡ Some r → (n : ℕ) × (content ≡ n ∷ []) × (n ≤ 0x7f) × (cause n ≡ r)
unfolding cause_at
cause-is [] r e = absurd (not_some r e)
cause-is (n ∷ []) r e = let t = test_some (leb n 0x7f) (some (cause n)) r e in (n, refl, below n n t.0 refl, some_is (cause n) r t.1)
cause-is (n ∷ m ∷ more) r e = absurd (not_some r e)

within : (n : ℕ) → n ≤ 0x7f → leb n 0x7f ≡ true
within n h = grind (arith, nat_tests)

cause-again : (n : ℕ) → n ≤ 0x7f → cause_at (n ∷ []) ≡ Some (cause n)
unfolding cause_at
cause-again n h = rw (within n h) refl

abbrev ReasonStands : List ℕ → Reason → Type 0
ReasonStands bytes r = SpellsSequence (reason_fields r) bytes × IsReason r

reason_at-is : (bytes : List ℕ) → 0 < length bytes → reason_at bytes ≡ reason_by (tagged 0x4a bytes).0 (tagged 0x4a bytes).1 bytes
unfolding reason_at
reason_at-is [] h = absurd (omega (arith, h))
reason_at-is (b ∷ bytes) h = refl

must-from : (tag : ℕ) (c bytes : List ℕ) → (tagged tag bytes).0 ≡ Some c → content_at tag bytes ≡ Some (c, (tagged tag bytes).1)
must-from tag c bytes e = rw e refl

by_takes : (bytes : List ℕ) (o : Option (List ℕ)) (r : Reason) → (tagged 0x4a bytes).0 ≡ o → reason_by o (tagged 0x4a bytes).1 bytes ≡ Some r → ReasonStands bytes r
by_takes bytes (Some c) r is e =
    let b = bind_some (cause_at c) (λ x. ending x (tagged 0x4a bytes).1) r e in
    let z = ending-is b.0 r (tagged 0x4a bytes).1 b.2 in
    let k = cause-is c b.0 b.1 in
    let stands = must_takes 0x4a [] bytes (c, (tagged 0x4a bytes).1) (must-from 0x4a c bytes is) (end_takes (tagged 0x4a bytes).1 z.0) in
    subst (ReasonStands bytes) (k.3 ∙ z.1) (subst (λ (x : List ℕ). SpellsSequence (must 0x4a x ∷ []) bytes) k.1 stands, k.2)
by_takes bytes None r is e =
    let b = bind_some (content_at 0x6b bytes) (λ d. ending (portion d.0) d.1) r e in
    let z = ending-is (portion b.0.0) r b.0.1 b.2 in
    subst (ReasonStands bytes) z.1 (must_takes 0x6b [] bytes b.0 b.1 (end_takes b.0.1 z.0), tt)

reason_takes : (bytes : List ℕ) (r : Reason) → reason_at bytes ≡ Some r → ReasonStands bytes r
unfolding reason_at
reason_takes [] r e = subst (ReasonStands []) (some_is nothing r e) (end_takes [] refl, tt)
reason_takes (b ∷ bytes) r e = by_takes (b ∷ bytes) (tagged 0x4a (b ∷ bytes)).0 r refl e

nothing-left : (bytes : List ℕ) → length bytes ≡ 0 → reason_at bytes ≡ Some nothing
unfolding reason_at
nothing-left [] e = refl
nothing-left (b ∷ bytes) e = absurd (omega (arith, e))

reason_again : (r : Reason) (bytes : List ℕ) → IsReason r → SpellsSequence (reason_fields r) bytes → reason_at bytes ≡ Some r
reason_again nothing bytes k l = nothing-left bytes (end_again bytes l)
reason_again (cause n) bytes k l =
    let m = must_again 0x4a (n ∷ []) [] bytes l in
    let t = content_at-is 0x4a bytes (n ∷ [], m.0) m.1 in
    reason_at-is bytes (must-longer 0x4a (n ∷ []) [] bytes l) ∙ rw (t.0, t.1) (rw (cause-again n k) (ending-again (cause n) m.0 (end_again m.0 m.2)))
reason_again (portion d) bytes k l =
    let m = must_again 0x6b d [] bytes l in
    let o = other_first 0x4a 0x6b d [] bytes refl l in
    reason_at-is bytes (must-longer 0x6b d [] bytes l) ∙ rw (o, m.1) (ending-again (portion d) m.0 (end_again m.0 m.2))

-- ---- the messages

abbrev Stands : MessageType → List ℕ → Message → Type 0
Stands k bytes m = (type_at (message_tag m ∷ []) ≡ Some k) × SpellsSequence (fields m) bytes × HasIds m × HasCause m

unidirectional_takes : (bytes : List ℕ) (m : Message) → unidirectional_at bytes ≡ Some m → Stands kind.Uni bytes m
unfolding unidirectional_at type_at
unidirectional_takes bytes m e =
    let rest = (tagged 0x6b bytes).1 in
    let c = bind_some (content_at 0x6c rest) (λ c. ending (unidirectional (tagged 0x6b bytes).0 c.0) c.1) m e in
    let z = ending-is (unidirectional (tagged 0x6b bytes).0 c.0.0) m c.0.1 c.2 in
    subst (Stands kind.Uni bytes) z.1 (refl, may_takes 0x6b _ bytes (must_takes 0x6c [] rest c.0 c.1 (end_takes c.0.1 z.0)), tt, tt)

begin_takes : (bytes : List ℕ) (m : Message) → begin_at bytes ≡ Some m → Stands kind.Begin bytes m
unfolding begin_at type_at
begin_takes bytes m e =
    let o = bind_some (id_at 0x48 bytes) (λ o. portions_at o.1 >>= (λ p. some (begin o.0 p.0 p.1))) m e in
    let p = bind_some (portions_at o.0.1) (λ p. some (begin o.0.0 p.0 p.1)) m o.2 in
    let i = id_takes 0x48 bytes o.0 o.1 in
    subst (Stands kind.Begin bytes) (some_is (begin o.0.0 p.0.0 p.0.1) m p.2) (refl, must_takes 0x48 _ bytes o.0 i.0 (portions_takes o.0.1 p.0 p.1), i.1, tt)

end_message_takes : (bytes : List ℕ) (m : Message) → end_at bytes ≡ Some m → Stands kind.End bytes m
unfolding end_at type_at
end_message_takes bytes m e =
    let t = bind_some (id_at 0x49 bytes) (λ o. portions_at o.1 >>= (λ p. some (end o.0 p.0 p.1))) m e in
    let p = bind_some (portions_at t.0.1) (λ p. some (end t.0.0 p.0 p.1)) m t.2 in
    let i = id_takes 0x49 bytes t.0 t.1 in
    subst (Stands kind.End bytes) (some_is (end t.0.0 p.0.0 p.0.1) m p.2) (refl, must_takes 0x49 _ bytes t.0 i.0 (portions_takes t.0.1 p.0 p.1), i.1, tt)

go_on_takes : (bytes : List ℕ) (m : Message) → go_on_at bytes ≡ Some m → Stands kind.Continue bytes m
unfolding go_on_at type_at
go_on_takes bytes m e =
    let o = bind_some (id_at 0x48 bytes) (λ o. id_at 0x49 o.1 >>= (λ t. portions_at t.1 >>= (λ p. some (go_on o.0 t.0 p.0 p.1)))) m e in
    let t = bind_some (id_at 0x49 o.0.1) (λ t. portions_at t.1 >>= (λ p. some (go_on o.0.0 t.0 p.0 p.1))) m o.2 in
    let p = bind_some (portions_at t.0.1) (λ p. some (go_on o.0.0 t.0.0 p.0 p.1)) m t.2 in
    let i = id_takes 0x48 bytes o.0 o.1 in
    let j = id_takes 0x49 o.0.1 t.0 t.1 in
    subst (Stands kind.Continue bytes) {x = go_on o.0.0 t.0.0 p.0.0 p.0.1} (some_is (go_on o.0.0 t.0.0 p.0.0 p.0.1) m p.2) (refl, must_takes 0x48 _ bytes o.0 i.0 (must_takes 0x49 _ o.0.1 t.0 j.0 (portions_takes t.0.1 p.0 p.1)), (i.1, j.1), tt)

abort_takes : (bytes : List ℕ) (m : Message) → abort_at bytes ≡ Some m → Stands kind.Abort bytes m
unfolding abort_at type_at
abort_takes bytes m e =
    let t = bind_some (id_at 0x49 bytes) (λ o. reason_at o.1 >>= (λ r. some (abort o.0 r))) m e in
    let r = bind_some (reason_at t.0.1) (λ r. some (abort t.0.0 r)) m t.2 in
    let i = id_takes 0x49 bytes t.0 t.1 in
    let s = reason_takes t.0.1 r.0 r.1 in
    subst (Stands kind.Abort bytes) (some_is (abort t.0.0 r.0) m r.2) (refl, must_takes 0x49 _ bytes t.0 i.0 s.0, i.1, s.1)

pub message_takes : (k : MessageType) (bytes : List ℕ) (m : Message) → message_at k bytes ≡ Some m → Stands k bytes m
message_takes kind.Uni bytes m e = unidirectional_takes bytes m e
message_takes kind.Begin bytes m e = begin_takes bytes m e
message_takes kind.End bytes m e = end_message_takes bytes m e
message_takes kind.Continue bytes m e = go_on_takes bytes m e
message_takes kind.Abort bytes m e = abort_takes bytes m e

pub kind_of : Message → MessageType
kind_of (unidirectional d c) = kind.Uni
kind_of (begin o d c) = kind.Begin
kind_of (end t d c) = kind.End
kind_of (go_on o t d c) = kind.Continue
kind_of (abort t r) = kind.Abort

pub message_again : (m : Message) (bytes : List ℕ) → SpellsSequence (fields m) bytes → HasIds m → HasCause m → message_at (kind_of m) bytes ≡ Some m
unfolding kind_of unidirectional_at begin_at end_at go_on_at abort_at
message_again (unidirectional d c) bytes l k j =
    let r = may_again 0x6b d (must 0x6c c ∷ []) bytes refl l in
    let s = must_again 0x6c c [] (tagged 0x6b bytes).1 r.1 in
    rw (r.0, s.1) (ending-again (unidirectional d c) s.0 (end_again s.0 s.2))
message_again (begin o d c) bytes l k j =
    let r = must_again 0x48 o _ bytes l in
    rw (id_again 0x48 bytes o r.0 r.1 k, portions_again d c r.0 r.2) refl
message_again (end t d c) bytes l k j =
    let r = must_again 0x49 t _ bytes l in
    rw (id_again 0x49 bytes t r.0 r.1 k, portions_again d c r.0 r.2) refl
message_again (go_on o t d c) bytes l k j =
    let r = must_again 0x48 o _ bytes l in
    let s = must_again 0x49 t _ r.0 r.2 in
    rw (id_again 0x48 bytes o r.0 r.1 k.0, id_again 0x49 r.0 t s.0 s.1 k.1, portions_again d c s.0 s.2) refl
message_again (abort t x) bytes l k j =
    let r = must_again 0x49 t _ bytes l in
    rw (id_again 0x49 bytes t r.0 r.1 k, reason_again x r.0 j r.2) refl

pub type_again : (m : Message) → type_at (message_tag m ∷ []) ≡ Some (kind_of m)
unfolding kind_of type_at
type_again (unidirectional d c) = refl
type_again (begin o d c) = refl
type_again (end t d c) = refl
type_again (go_on o t d c) = refl
type_again (abort t r) = refl
