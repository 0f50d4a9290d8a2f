-- What a step that did not fail says, over any type of fault.
use Rattle.std.proofs.Common.{◌≡◌, Bool, true, false, cond, Ok, Err, Result, refl, ap, ◌⊎◌, inl, inr}
use Rattle.ber_core.specs.Results.{◌>>=◌}

-- a result whose types are told
abbrev pub read : {A E : Type 0} → A → Result A E
read x = Ok x

abbrev pub refused : {A E : Type 0} → E → Result A E
refused f = Err f

pub read_is : {A E : Type 0} (x y : A) → read {E = E} x ≡ read y → x ≡ y
read_is x y e = cc

pub refused_is : {A E : Type 0} (f g : E) → refused {A = A} f ≡ refused g → f ≡ g
refused_is f g e = cc

pub not_read : {A E : Type 0} (f : E) (y : A) → refused f ≡ read y → ⊥
not_read f y e = cc

pub not_refused : {A E : Type 0} (f : E) (y : A) → read y ≡ refused f → ⊥
not_refused f y e = cc

-- a result is a value or a fault
abbrev pub ByResult : {A E : Type 0} → Result A E → Type 0
ByResult {A} {E} r = ((f : E) × (r ≡ Err f)) ⊎ ((x : A) × (r ≡ Ok x))

pub by_result : {A E : Type 0} (r : Result A E) → ByResult r
by_result (Err f) = inl (f, refl)
by_result (Ok x) = inr (x, refl)

pub bind_read : {A B E : Type 0} (r : Result A E) (f : A → Result B E) (y : B) → (r >>= f) ≡ Ok y → (x : A) × (r ≡ Ok x) × (f x ≡ Ok y)
bind_read (Ok x) f y e = (x, refl, e)
bind_read (Err d) f y e = absurd cc

pub bind_refused : {A B E : Type 0} (r : Result A E) (f : A → Result B E) (g : E) → (r >>= f) ≡ Err g → (r ≡ Err g) ⊎ ((x : A) × (r ≡ Ok x) × (f x ≡ Err g))
bind_refused (Ok x) f g e = inr (x, refl, e)
bind_refused {A} {B} {E} (Err d) f g e = inl (ap (λ (h : E). refused {A = A} h) (refused_is {A = B} d g e))

-- which branch gave the value
pub chosen_by : {X : Type 0} (b : Bool) (x y z : X) → cond b x y ≡ z → ((b ≡ true) × (x ≡ z)) ⊎ ((b ≡ false) × (y ≡ z))
chosen_by true x y z e = inl (refl, e)
chosen_by false x y z e = inr (refl, e)

pub guard_read : {A E : Type 0} (b : Bool) (d : E) (r : Result A E) (y : A) → cond b (Err d) r ≡ Ok y → (b ≡ false) × (r ≡ Ok y)
guard_read true d r y e = absurd cc
guard_read false d r y e = (refl, e)
