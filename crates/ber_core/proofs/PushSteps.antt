-- What a push makes of the stream behind which a feed stands.
use Rattle.std.proofs.Common.{◌≡◌, ◌≢◌, ℕ, Bool, true, false, cond, eqb, ltb, List, [], ◌∷◌, ◌++◌, length, map, Option, Some, None, Result, Ok, Err, refl, sym, ap, subst, ◌∙◌, inl, inr, arith}
use Rattle.std.proofs.lemmas.Bool.{ne_eqb}
use Rattle.std.proofs.lemmas.List.{append-nil, length-append}
use Rattle.std.specs.Prelude.{IfOk, IfErr}
use Rattle.ber_core.specs.declared.fault.BerFault.{BerFault}
use Rattle.ber_core.specs.declared.fault.FeedFault.{FeedFault}
use Rattle.ber_core.specs.declared.fault.FeedFault.TheVariants.{OutOfMemory, Ber, TooLong}
use Rattle.ber_core.specs.declared.scanner.Scanner.{Scanner}
use Rattle.ber_core.specs.Stream.{Cut, is_short, cut_into, cut_of}
use Rattle.ber_core.specs.Feeding.{Left, left_by, left_of, StandsBehind, Takes, WantsMemory, Completes, Fails}
use Rattle.ber_core.specs.Pieces.{IsUnderWay, still_begun}
use Rattle.ber_core.proofs.CutGrammar.{cut_takes, cut-longer, cut-faulty, after_messages}
use Rattle.ber_core.proofs.FeedSteps.{under_way-cut}

-- ---- no stream wants memory

cond-real : (a b : Bool) (why : BerFault) → cond a (cond b (Some TooLong) None) (Some (Ber why)) ≡ Some OutOfMemory → ⊥
cond-real true true why e = absurd cc
cond-real true false why e = absurd cc
cond-real false b why e = absurd cc

pub cut-real : (stream : List ℕ) → (cut_of stream).fault ≡ Some OutOfMemory → ⊥
cut-real stream e =
    let h = cut_takes stream in
    cond-real (is_short h.why) (ltb 65535 (length (cut_of stream).rest)) h.why (sym h.is_fault ∙ e)

-- ---- what a feed holds

left-fault : (o : Option FeedFault) (rest : List ℕ) → (left_by o rest).fault ≡ o
left-fault None rest = refl
left-fault (Some f) rest = refl

left-same : (o p : Option FeedFault) (r s : List ℕ) → o ≡ None → left_by o r ≡ left_by p s → (p ≡ None) × (r ≡ s)
left-same None None r s h e = (refl, ap (λ (l : Left). l.rest) e)
left-same None (Some f) r s h e = absurd (let none : None ≡ Some f = ap (λ (l : Left). l.fault) e in cc)
left-same (Some f) p r s h e = absurd cc

stands-fault : (stream : List ℕ) (old : Left) → StandsBehind stream old → old.fault ≡ (cut_of stream).fault
stands-fault stream old h = ap (λ (l : Left). l.fault) h ∙ left-fault (cut_of stream).fault (cut_of stream).rest

-- ---- a fault that stands

pub fails-real : (stream piece : List ℕ) (old new : Left) (f : FeedFault) → Takes stream piece [] new → new.fault ≡ Some f → (f ≡ OutOfMemory → ⊥) → Fails stream piece old f new
fails-real stream piece old new OutOfMemory t e real = absurd (real refl)
fails-real stream piece old new (Ber why) t e real = (t, e)
fails-real stream piece old new TooLong t e real = (t, e)

real-of : (stream : List ℕ) (f : FeedFault) → (cut_of stream).fault ≡ Some f → f ≡ OutOfMemory → ⊥
real-of stream f e is = cut-real stream (e ∙ ap (λ (g : FeedFault). Some g) is)

pub faulty-push : (stream piece : List ℕ) (old : Left) (f : FeedFault) → old.fault ≡ Some f → StandsBehind stream old → Fails stream piece old f old
faulty-push stream piece old f is h =
    let faulty : (cut_of stream).fault ≡ Some f = sym (stands-fault stream old h) ∙ is in
    let longer = cut-faulty stream piece f faulty in
    let stands : old ≡ left_of (cut_of (stream ++ piece)) = h ∙ (ap (λ (o : Option FeedFault). left_by o (cut_of stream).rest) faulty ∙ sym (ap left_of longer)) in
    let takes : Takes stream piece [] old = record { messages = ap (λ (c : Cut). c.messages) longer ∙ sym (append-nil (cut_of stream).messages); stands = stands } in
    fails-real stream piece old old f takes is (real-of stream f faulty)

-- ---- a piece

append-same : (xs ys : List (List ℕ)) → xs ++ ys ≡ xs → ys ≡ []
append-same xs [] e = refl
append-same xs (y ∷ ys) e = absurd (omega (arith, ap length e, length-append xs (y ∷ ys)))

append-more : (xs ys : List ℕ) → xs ≡ xs ++ ys → ys ≡ []
append-more xs [] e = refl
append-more xs (y ∷ ys) e = absurd (omega (arith, ap length e, length-append xs (y ∷ ys)))

module _ (stream piece begun : List ℕ) (h : StandsBehind stream (left_by None begun)) where
  is_left : ((cut_of stream).fault ≡ None) × (begun ≡ (cut_of stream).rest)
  is_left = left-same None (cut_of stream).fault begun (cut_of stream).rest refl h

  longer : cut_of (stream ++ piece) ≡ after_messages (cut_of stream).messages (cut_of (begun ++ piece))
  longer = cut-longer stream piece ∙ ap (λ (w : List ℕ). after_messages (cut_of stream).messages (cut_of (w ++ piece))) (sym is_left.1)

  pub takes_on : (told : List (List ℕ)) (rest : List ℕ) (fault : Option FeedFault) → cut_of (begun ++ piece) ≡ cut_into told rest fault → Takes stream piece told (left_by fault rest)
  takes_on told rest fault e =
      let all : cut_of (stream ++ piece) ≡ after_messages (cut_of stream).messages (cut_into told rest fault) = longer ∙ ap (after_messages (cut_of stream).messages) e in
      record { messages = ap (λ (c : Cut). c.messages) all; stands = sym (ap left_of all) }

  pub gives-open : (told : List (List ℕ)) (rest : List ℕ) → cut_of (begun ++ piece) ≡ cut_into told rest None → Completes stream piece told (left_by None rest)
  gives-open told rest e = (takes_on told rest None e, λ none. refl)

  pub gives-fault : (told : List (List ℕ)) (rest : List ℕ) (f : FeedFault) → told ≢ [] → cut_of (begun ++ piece) ≡ cut_into told rest (Some f) → Completes stream piece told (left_by (Some f) rest)
  gives-fault told rest f some e = (takes_on told rest (Some f) e, λ none. absurd (some none))

  pub fails-fault : (told : List (List ℕ)) (rest : List ℕ) (f : FeedFault) (old : Left) → told ≡ [] → cut_of (begun ++ piece) ≡ cut_into told rest (Some f) → Fails stream piece old f (left_by (Some f) rest)
  fails-fault told rest f old none e =
      let t = takes_on told rest (Some f) e in
      fails-real stream piece old (left_by (Some f) rest) f (rw none at t) refl (real-of (begun ++ piece) f (ap (λ (c : Cut). c.fault) e))

  pub wants-message : (cut_of (begun ++ piece)).messages ≢ [] → WantsMemory stream piece
  wants-message some = inl (λ same. some (append-same (cut_of stream).messages (cut_of (begun ++ piece)).messages (sym (ap (λ (c : Cut). c.messages) longer) ∙ same)))

  pub wants-octets : (told : List (List ℕ)) (octets : List ℕ) (s : Scanner) → IsUnderWay s begun → cut_of (begun ++ piece) ≡ cut_into told (still_begun told begun ++ octets) None → octets ≢ [] → WantsMemory stream piece
  wants-octets told octets s u e some =
      let fault : (cut_of (stream ++ piece)).fault ≡ None = ap (λ (c : Cut). c.fault) (longer ∙ ap (after_messages (cut_of stream).messages) e) in
      inr (
        λ none.
            let still : cut_into [] begun None ≡ cut_into told (still_begun told begun ++ octets) None = sym (under_way-cut s begun u) ∙ (ap cut_of (sym (append-nil begun) ∙ ap (λ (w : List ℕ). begun ++ w) (sym none)) ∙ e) in
            let no_told : told ≡ [] = sym (ap (λ (c : Cut). c.messages) still) in
            some (append-more begun octets (ap (λ (c : Cut). c.rest) still ∙ ap (λ (ms : List (List ℕ)). still_begun ms begun ++ octets) no_told)),
        fault,
      )

  -- the piece lies within the element under way
  module _ (s : Scanner) (u : IsUnderWay s (begun ++ piece)) where
    pub gives-within : Completes stream piece [] (left_by None (begun ++ piece))
    gives-within = gives-open [] (begun ++ piece) (under_way-cut s (begun ++ piece) u)

    pub wants-within : piece ≢ [] → WantsMemory stream piece
    wants-within some = inr (some, ap (λ (c : Cut). c.fault) (longer ∙ ap (after_messages (cut_of stream).messages) (under_way-cut s (begun ++ piece) u)))

-- ---- what is held

pub none-of : {X : Type 0} (o : Option X) → ((x : X) → o ≡ Some x → ⊥) → o ≡ None
none-of None h = refl
none-of (Some x) h = absurd (h x refl)

pub left-is : (o : Option FeedFault) (rest octets : List ℕ) → o ≡ None → rest ≡ octets → left_by None octets ≡ record { rest = rest; fault = o }
left-is o rest octets e is = rw (e, is) refl

pub held-is : {X : Type 0} (f : X → List ℕ) (items : List X) (n : ℕ) (none : Bool) (begun : List ℕ) → n ≡ length items → none ≡ eqb n 0 → cond none begun [] ≡ still_begun (map f items) begun
held-is f [] n none begun e is = rw (is, e) refl
held-is f (x ∷ xs) n none begun e is = rw (is, ne_eqb n 0 (λ q. absurd (omega (arith, e)))) refl

pub map-filled : {X : Type 0} (f : X → List ℕ) (items : List X) → items ≢ [] → map f items ≢ []
map-filled f [] some e = some refl
map-filled f (x ∷ xs) some e = absurd cc

-- ---- what is answered

module _ {R Y : Type 0} (told : List Y) where
  pub ended-gives : (of : R → List Y) (view : List Y → List (List ℕ)) (P : List (List ℕ) → Type 0) (r : Result R FeedFault) → IfOk r (λ all. (of all ≡ told) × (told ≢ [])) → (told ≢ [] → P (view told)) → IfOk r (λ all. P (view (of all)))
  ended-gives of view P (Ok all) h p = subst (λ (w : List Y). P (view w)) (sym h.0) (p h.1)
  ended-gives of view P (Err f) h p = tt

  pub ended-fails : (P : FeedFault → Type 0) (fault : FeedFault) (r : Result R FeedFault) → IfErr r (λ f. (f ≡ fault) × (told ≡ [])) → (told ≡ [] → P fault) → IfErr r P
  ended-fails P fault (Ok all) h p = tt
  ended-fails P fault (Err f) h p = subst P (sym h.0) (p h.1)
