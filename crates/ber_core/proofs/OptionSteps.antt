-- What a step that found something says.
use Rattle.std.proofs.Common.{◌≡◌, ℕ, Bool, true, false, cond, eqb, List, length, Option, Some, None, refl, eqb-true, ◌⊎◌, inl, inr}
use Rattle.ber_core.specs.Options.{◌>>=◌}
use Rattle.ber_core.specs.SequenceReading.{ending}

abbrev pub some : {A : Type 0} → A → Option A
some x = Some x

pub some_is : {A : Type 0} (x y : A) → some x ≡ some y → x ≡ y
some_is x y e = cc

pub not_some : {A : Type 0} (y : A) → None ≡ some y → ⊥
not_some y e = cc

-- an option is something or nothing
abbrev pub ByOption : {A : Type 0} → Option A → Type 0
ByOption {A} o = (o ≡ None) ⊎ ((x : A) × (o ≡ Some x))

pub by_option : {A : Type 0} (o : Option A) → ByOption o
by_option None = inl refl
by_option (Some x) = inr (x, refl)

pub bind_some : {A B : Type 0} (o : Option A) (f : A → Option B) (y : B) → (o >>= f) ≡ Some y → (x : A) × (o ≡ Some x) × (f x ≡ Some y)
bind_some None f y e = absurd cc
bind_some (Some x) f y e = (x, refl, e)

pub guard_some : {A : Type 0} (b : Bool) (o : Option A) (y : A) → cond b None o ≡ Some y → (b ≡ false) × (o ≡ Some y)
guard_some true o y e = absurd cc
guard_some false o y e = (refl, e)

pub test_some : {A : Type 0} (b : Bool) (o : Option A) (y : A) → cond b o None ≡ Some y → (b ≡ true) × (o ≡ Some y)
test_some true o y e = (refl, e)
test_some false o y e = absurd cc

pub ending-is : {A : Type 0} (x y : A) (rest : List ℕ) → ending x rest ≡ Some y → (length rest ≡ 0) × (x ≡ y)
ending-is x y rest e = let t = test_some (eqb (length rest) 0) (some x) y e in (eqb-true (length rest) 0 t.0, some_is x y t.1)

pub ending-again : {A : Type 0} (x : A) (rest : List ℕ) → length rest ≡ 0 → ending x rest ≡ Some x
ending-again x rest e = rw e refl
