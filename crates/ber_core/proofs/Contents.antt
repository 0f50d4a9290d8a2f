-- Steps through an element, and through the contents of an indefinite one.
use Rattle.std.proofs.Common.{◌≡◌, ℕ, zero, suc, ◌-◌, ◌<◌, ◌≤◌, Bool, List, [], ◌∷◌, length, drop, Option, Some, Ok, Err, Result, refl, arith}
use Rattle.std.proofs.lemmas.Bool.{lt-ltb, le-ltb}
use Rattle.ber_core.specs.declared.fault.BerFault.{BerFault}
use Rattle.ber_core.specs.declared.fault.BerFault.TheVariants.{Short}
use Rattle.ber_core.specs.Results.{◌>>=◌}
use Rattle.ber_core.specs.HeadReading.{head_at}
use Rattle.ber_core.specs.ElementReading.{end_at, end_or, body_by, contents_by, contents_at, after_at, inner_at, body_at}

-- ---- an element

abbrev pub HeadRead : Type 0
HeadRead = List ℕ × Bool × Option ℕ × List ℕ

pub inner_at-some : (depth : ℕ) (bytes : List ℕ) → 0 < depth → inner_at depth bytes ≡ contents_at (depth - 1) bytes
inner_at-some zero bytes h = absurd (omega arith)
inner_at-some (suc depth) bytes h = let e : suc depth - 1 ≡ depth = omega arith in rw e refl

pub after_at-is : (depth : ℕ) (bytes : List ℕ) → after_at depth bytes ≡ (head_at bytes >>= (λ h. body_by (inner_at depth) h.2 h.3))
unfolding after_at
after_at-is zero bytes = refl
after_at-is (suc depth) bytes = refl

pub after_at-failed : (depth : ℕ) (bytes : List ℕ) (f : BerFault) → head_at bytes ≡ Err f → after_at depth bytes ≡ Err f
after_at-failed depth bytes f e = rw (after_at-is depth bytes, e) refl

pub after_at-body : (depth : ℕ) (bytes : List ℕ) (h : HeadRead) → head_at bytes ≡ Ok h → after_at depth bytes ≡ body_at depth h.2 h.3
after_at-body depth bytes h e = rw (after_at-is depth bytes, e) refl

pub body_at-short : (depth n : ℕ) (o : Option ℕ) (body : List ℕ) → o ≡ Some n → length body < n → body_at depth o body ≡ Err Short
body_at-short depth n o body is lt = rw (is, lt-ltb (length body) n lt) refl

pub body_at-definite : (depth n : ℕ) (o : Option ℕ) (body : List ℕ) → o ≡ Some n → n ≤ length body → body_at depth o body ≡ Ok (drop n body)
body_at-definite depth n o body is le = rw (is, le-ltb (length body) n le) refl

-- ---- contents

-- one turn: with no fuel left there are no octets left
pub turn : (next : List ℕ → Result (List ℕ) BerFault) (fuel : ℕ) (rest : List ℕ) → length rest ≤ fuel → contents_by next fuel rest ≡ (end_at rest >>= end_or (next rest >>= contents_by next (fuel - 1)))
unfolding contents_by end_at
turn next zero [] h = refl
turn next zero (a ∷ rest) h = absurd (omega arith)
turn next (suc fuel) rest h = let e : suc fuel - 1 ≡ fuel = omega arith in rw e refl
