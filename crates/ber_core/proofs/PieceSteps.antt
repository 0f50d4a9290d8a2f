-- What the messages of a piece make of the cut of a stream.
use Rattle.std.proofs.Common.{◌≡◌, ◌≢◌, ℕ, List, [], ◌∷◌, ◌++◌, map, Option, Some, None, refl, sym, ap, ◌∙◌, append_assoc}
use Rattle.std.proofs.lemmas.List.{append-nil}
use Rattle.ber_core.specs.declared.fault.FeedFault.{FeedFault}
use Rattle.ber_core.specs.declared.scanner.Scanner.{Scanner}
use Rattle.ber_core.specs.Stream.{Cut, cut_into, with_message, cut_of}
use Rattle.ber_core.specs.Pieces.{IsUnderWay, still_begun}
use Rattle.ber_core.proofs.CutGrammar.{after_messages}
use Rattle.ber_core.proofs.FeedSteps.{under_way-cut}

still_begun-more : (told : List (List ℕ)) (message begun : List ℕ) → still_begun (told ++ (message ∷ [])) begun ≡ []
still_begun-more [] message begun = refl
still_begun-more (m ∷ told) message begun = refl

-- the messages so far, and what is left of a piece
pub record IsTold (begun piece : List ℕ) (told : List (List ℕ)) (s : Scanner) (held rest : List ℕ) : Type 0 where
  pub cuts : cut_of (begun ++ piece) ≡ after_messages told (cut_of (held ++ rest))
  pub under_way : IsUnderWay s held
  pub is_held : held ≡ still_begun told begun

message-after : (told : List (List ℕ)) (message : List ℕ) (cut : Cut) → after_messages told (with_message message cut) ≡ after_messages (told ++ (message ∷ [])) cut
message-after told message cut = ap (λ (ms : List (List ℕ)). cut_into ms cut.rest cut.fault) (sym (append_assoc told (message ∷ []) cut.messages))

module _ {X : Type 0} (f : X → List ℕ) where
  map-one : (xs : List X) (x : X) → map f (xs ++ (x ∷ [])) ≡ map f xs ++ (f x ∷ [])
  map-one [] x = refl
  map-one (y ∷ xs) x = ap (λ (told : List (List ℕ)). f y ∷ told) (map-one xs x)

  -- what is told once one more is pushed
  pub map-pushed : (xs ys zs : List X) (x : X) (message : List ℕ) → zs ≡ ys ++ (x ∷ []) → ys ≡ xs → f x ≡ message → map f zs ≡ map f xs ++ (message ∷ [])
  map-pushed xs ys zs x message p q e =
      ap (map f) (p ∙ ap (λ (ws : List X). ws ++ (x ∷ [])) q) ∙ (map-one xs x ∙ ap (λ (w : List ℕ). map f xs ++ (w ∷ [])) e)

not-empty : (told : List (List ℕ)) (message : List ℕ) (more : List (List ℕ)) → told ++ (message ∷ more) ≢ []
not-empty [] message more e = absurd cc
not-empty (m ∷ told) message more e = absurd cc

module _ (begun piece : List ℕ) (told : List (List ℕ)) (s : Scanner) (held rest : List ℕ) (is : IsTold begun piece told s held rest) where
  pub IsTold-next : (message after : List ℕ) (more : List (List ℕ)) (t : Scanner) → cut_of (held ++ rest) ≡ with_message message (cut_of after) → more ≡ told ++ (message ∷ []) → IsUnderWay t [] → IsTold begun piece more t [] after
  IsTold-next message after more t e same new = record {
    cuts = is.cuts ∙ (ap (after_messages told) e ∙ (message-after told message (cut_of after) ∙ ap (λ (ms : List (List ℕ)). after_messages ms (cut_of after)) (sym same)));
    under_way = new;
    is_held = sym (ap (λ (ms : List (List ℕ)). still_begun ms begun) same ∙ still_begun-more told message begun);
  }

  same-held : held ++ rest ≡ still_begun told begun ++ rest
  same-held = ap (λ (w : List ℕ). w ++ rest) is.is_held

  ends : (fault : Option FeedFault) → cut_of (held ++ rest) ≡ cut_into [] (held ++ rest) fault → cut_of (begun ++ piece) ≡ cut_into told (still_begun told begun ++ rest) fault
  ends fault e = is.cuts ∙ (ap (after_messages told) e ∙ (ap (λ (ms : List (List ℕ)). cut_into ms (held ++ rest) fault) (append-nil told) ∙ ap (λ (w : List ℕ). cut_into told w fault) same-held))

  pub IsTold-open : (t : Scanner) → IsUnderWay t (held ++ rest) → (cut_of (begun ++ piece) ≡ cut_into told (still_begun told begun ++ rest) None) × IsUnderWay t (still_begun told begun ++ rest)
  IsTold-open t h = let e = same-held in (ends None (under_way-cut t (held ++ rest) h), (rw e at h))

  pub IsTold-done : rest ≡ [] → (cut_of (begun ++ piece) ≡ cut_into told (still_begun told begun ++ rest) None) × IsUnderWay s (still_begun told begun ++ rest)
  IsTold-done e = IsTold-open s (rw (e, append-nil held) is.under_way)

  pub IsTold-fault : (fault : FeedFault) → cut_of (held ++ rest) ≡ cut_into [] (held ++ rest) (Some fault) → (all : List ℕ) × (cut_of (begun ++ piece) ≡ cut_into told all (Some fault))
  IsTold-fault fault e = (still_begun told begun ++ rest, ends (Some fault) e)

  pub IsTold-some : (message after : List ℕ) → cut_of (held ++ rest) ≡ with_message message (cut_of after) → (cut_of (begun ++ piece)).messages ≢ []
  IsTold-some message after e none = not-empty told message (cut_of after).messages (sym (ap (λ (c : Cut). c.messages) (is.cuts ∙ ap (after_messages told) e)) ∙ none)
