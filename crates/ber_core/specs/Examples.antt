-- Octets of the worked examples.
use Rattle.std.specs.Prelude.{ℕ, List, [], ◌∷◌, map, take, None}
use Rattle.std.specs.List.{range_with_len}
use Rattle.ber_core.specs.Stream.{Cut, cut_of, cut_into}

-- The Begin of the examples in the shortest form (own).
abbrev pub begin_octets : List ℕ
begin_octets = 0x62 ∷ 0x06 ∷ 0x48 ∷ 0x04 ∷ 0x00 ∷ 0x00 ∷ 0x00 ∷ 0x01 ∷ []

-- A Begin with an Invoke, of indefinite form throughout, in 31 octets (own).
abbrev pub indefinite_octets : List ℕ
indefinite_octets =
    0x62 ∷ 0x80 ∷ 0x48 ∷ 0x04 ∷ 0x00 ∷ 0x00 ∷ 0x00 ∷ 0x01 ∷ 0x6c ∷ 0x80 ∷ 0xa1 ∷ 0x80 ∷ 0x02 ∷ 0x01 ∷ 0x01
    ∷ 0x02 ∷ 0x01 ∷ 0x02 ∷ 0x30 ∷ 0x80 ∷ 0x04 ∷ 0x01 ∷ 0xaa ∷ 0x00 ∷ 0x00 ∷ 0x00 ∷ 0x00 ∷ 0x00 ∷ 0x00 ∷ 0x00 ∷ 0x00 ∷ []

-- The cuts of the first octets of a stream, of none up to all but the last of so many (own).
abbrev pub cuts_of_fronts : ℕ → List ℕ → List Cut
cuts_of_fronts n stream = map (λ k. cut_of (take k stream)) (range_with_len 0 n)

-- The cuts of the first octets of a stream, where none of them has a message or a fault (own).
abbrev pub fronts_alone : ℕ → List ℕ → List Cut
fronts_alone n stream = map (λ k. cut_into [] (take k stream) None) (range_with_len 0 n)
