-- The sum over the messages of a stream, some of which were fed.
use Rattle.std.proofs.Common.{◌≡◌, ◌++◌, ◌∙◌, ℕ, List, [], ◌∷◌, length, map, refl, sym, ap}
use Rattle.std.proofs.lemmas.List.{append_assoc, map-append}
use Rattle.ber_core.specs.Feeding.{Left, StandsBehind}
use Rattle.ber_core.specs.Stream.{cut_by, cut_of}
use Rattle.tcap_bench.proofs.Sums.{checksum_append}
use Rattle.tcap_bench.specs.Checksum.{checksum, stream_checksum}
use Rattle.tcap_bench.specs.Fed.{IsAdded}

-- the lengths of values' octets
pub lengths-of : {V : Type 0} (octets : V → List ℕ) (xs : List V) → map (λ x. length (octets x)) xs ≡ map (λ m. length m) (map octets xs)
lengths-of octets [] = refl
lengths-of octets (x ∷ xs) = ap (λ ns. length (octets x) ∷ ns) (lengths-of octets xs)

-- a feed that has taken all octets but those that are left, and the sum of its messages
pub record IsFed (bytes left : List ℕ) (feed : Left) (sum : ℕ) : Type 0 where
  pub stream : List ℕ
  pub is_joined : bytes ≡ stream ++ left
  pub stands : StandsBehind stream feed
  pub is_sum : sum ≡ stream_checksum stream

-- nothing was fed
pub nothing-fed : (bytes : List ℕ) (feed : Left) → StandsBehind [] feed → IsFed bytes bytes feed 0
unfolding cut_by
nothing-fed bytes feed stands = record { stream = []; is_joined = refl; stands = stands; is_sum = refl }

-- a piece was taken
pub piece-fed : (bytes left piece more : List ℕ) (feed later : Left) (sum added : ℕ) (f : IsFed bytes left feed sum) → left ≡ piece ++ more → IsAdded f.stream piece later sum added → IsFed bytes more later added
piece-fed bytes left piece more feed later sum added f split a = record {
  stream = f.stream ++ piece;
  is_joined = f.is_joined ∙ ap (λ xs. f.stream ++ xs) split ∙ sym (append_assoc f.stream piece more);
  stands = a.takes.stands;
  is_sum = a.is_sum ∙ ap (λ n. checksum n (map (λ m. length m) a.told)) f.is_sum
      ∙ sym (checksum_append 0 (map (λ m. length m) (cut_of f.stream).messages) (map (λ m. length m) a.told))
      ∙ ap (checksum 0) (sym (map-append (λ m. length m) (cut_of f.stream).messages a.told) ∙ ap (map (λ m. length m)) (sym a.takes.messages));
}
