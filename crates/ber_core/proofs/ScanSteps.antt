-- What a scan of the contents of an indefinite element says.
use Rattle.std.proofs.Common.{◌≡◌, ℕ, zero, suc, ◌+◌, ◌≤◌, List, [], ◌∷◌, ◌++◌, length, Ok, Err, refl, sym, ap, ◌∙◌, arith}
use Rattle.std.proofs.lemmas.Bool.{lt-ltb}
use Rattle.std.proofs.lemmas.List.{append-nil, length-append}
use Rattle.ber_core.specs.declared.fault.BerFault.{BerFault}
use Rattle.ber_core.specs.declared.fault.BerFault.TheVariants.{Short}
use Rattle.ber_core.specs.declared.scanner.due.Due.{Due}
use Rattle.ber_core.specs.declared.scanner.due.Due.TheVariants as due
use Rattle.ber_core.specs.declared.scanner.Scanner.{Scanner}
use Rattle.ber_core.specs.Due.{CanBeDue}
use Rattle.ber_core.specs.Element.{IsElement, joined}
use Rattle.ber_core.specs.HeadReading.{further_at, tag_at, length_at, head_at}
use Rattle.ber_core.specs.ElementReading.{contents_by, contents_at, after_at}
use Rattle.ber_core.specs.Scanning.{outer_at, at_due, goes_on}
use Rattle.ber_core.proofs.ResultSteps.{read}
use Rattle.ber_core.proofs.ElementGrammar.{after_takes, contents_takes}
use Rattle.ber_core.proofs.ScannerSteps.{bind-none}

-- ---- no octet more

due-none : (d : Due) (n : ℕ) → CanBeDue d n → at_due d n [] ≡ Err Short
unfolding outer_at contents_by after_at head_at tag_at further_at length_at
due-none due.Tag zero h = refl
due-none due.Tag (suc n) h = refl
due-none due.End n h = refl
due-none (due.FirstFurther c) n h = refl
due-none (due.Further c zero) n h = absurd (omega (arith, h.0))
due-none (due.Further c (suc left)) n h = refl
due-none (due.Length c) n h = refl
due-none (due.LongLength left value) n h = rw (lt-ltb 0 left h.0.0) refl
due-none (due.Content left) n h = rw (lt-ltb 0 left h.0) refl

-- a scanner's element isn't whole
pub scanner-short : (s : Scanner) → goes_on s [] ≡ Err Short
scanner-short s = due-none s.due s.nested s.can_be

-- ---- the contents of one indefinite element

abbrev IsInside : Scanner → Type 0
IsInside s = (rest : List ℕ) → goes_on s rest ≡ outer_at 1 rest

inside-is : (s : Scanner) → IsInside s → (rest : List ℕ) → goes_on s rest ≡ contents_at 31 rest
unfolding outer_at
inside-is s h rest = h rest ∙ sym (bind-none (contents_at 31 rest))

module _ (s : Scanner) (h : IsInside s) (bytes : List ℕ) where
  all-of : goes_on s (bytes ++ []) ≡ contents_at 31 bytes
  all-of = inside-is s h (bytes ++ []) ∙ ap (contents_at 31) (append-nil bytes)

  pub inside-fault : (f : BerFault) → ((more : List ℕ) → goes_on s (bytes ++ more) ≡ Err f) → contents_at 31 bytes ≡ Err f
  inside-fault f on = sym all-of ∙ on []

  pub inside-end : (after : List ℕ) → ((more : List ℕ) → read (after ++ more) ≡ goes_on s (bytes ++ more)) → contents_at 31 bytes ≡ Ok after
  inside-end after on = sym all-of ∙ (sym (on []) ∙ ap (λ (w : List ℕ). read w) (append-nil after))

  pub inside-short : (t : Scanner) → ((more : List ℕ) → goes_on t more ≡ goes_on s (bytes ++ more)) → contents_at 31 bytes ≡ Err Short
  inside-short t on = sym all-of ∙ (sym (on []) ∙ scanner-short t)

-- contents and their end, and what follows them
pub contents-longer : (bytes after : List ℕ) → contents_at 31 bytes ≡ Ok after → length after + 2 ≤ length bytes
contents-longer bytes after e =
    let t = contents_takes (after_at 31) (IsElement 31) (after_takes 31) (length bytes) bytes after e in
    omega (arith, ap length t.2, length-append (joined t.0) (0 ∷ 0 ∷ after))
