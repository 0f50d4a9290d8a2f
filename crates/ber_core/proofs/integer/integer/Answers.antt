use Rattle.std.proofs.Common.{◌≡◌, ℕ, ◌<◌, List, length, arith, sym, ◌∙◌, ap, refl, [], ◌∷◌}
use Rattle.std.specs.Int.{w8, w32}
use Rattle.std.proofs.lemmas.Int.{to_z-of_z}
use Rattle.ber_core.specs.Integer.{integer_at}
use Rattle.ber_core.proofs.IntegerSteps.{integer_at-1, integer_at-2, integer_at-3, integer_at-4, integer_at-padded, integer_at-long, integer_at-none}
use Rattle.ber_core.proofs.integer.integer.Goals as goal

nothing : (xs : List ℕ) → length xs < 1 → xs ≡ []
nothing [] h = refl
nothing (x ∷ xs) h = absurd (omega arith)

pub returns-in-len1 : goal.returns-in-len1
returns-in-len1 c =
    let octet = to_z-of_z w8 c.cast_signed.result (record { sfits = c.cast_signed.type_inv }) in
    let word = to_z-of_z w32 c.from.result (record { sfits = c.from.type_inv }) in
    sym (integer_at-1 c.args.content.now _ (omega (arith, c.in-len1.len_at_least)) (λ k. (c.type_inv.content k).fits) (word ∙ c.from.ensures ∙ octet ∙ c.cast_signed.ensures))

pub returns-in-len2 : goal.returns-in-len2
returns-in-len2 c =
    let word = to_z-of_z w32 c.signed_word.result (record { sfits = c.signed_word.type_inv }) in
    sym (integer_at-2 c.args.content.now _ (omega (arith, c.in-len2.len_at_least)) (λ k. (c.type_inv.content k).fits) (sym c.starts_padded.ensures ∙ c.if-not-starts_padded.true) (rw (← c.sign_of-sign.ensures) (word ∙ c.signed_word.ensures)))

pub returns-in-len3 : goal.returns-in-len3
returns-in-len3 c =
    let word = to_z-of_z w32 c.signed_word-in-len3.result (record { sfits = c.signed_word-in-len3.type_inv }) in
    sym (integer_at-3 c.args.content.now _ (omega (arith, c.in-len3.len_at_least)) (λ k. (c.type_inv.content k).fits) (sym c.starts_padded-then-content-lt4.ensures ∙ c.if-not-starts_padded-2.true) (rw (← c.sign_of.ensures) (word ∙ c.signed_word-in-len3.ensures)))

pub returns-in-len4 : goal.returns-in-len4
returns-in-len4 c =
    let word = to_z-of_z w32 c.signed_word-in-len4.result (record { sfits = c.signed_word-in-len4.type_inv }) in
    sym (integer_at-4 c.args.content.now _ (omega (arith, c.in-len4.len_at_least)) (λ k. (c.type_inv.content k).fits) (sym c.starts_padded-then-content-lt5.ensures ∙ c.if-not-starts_padded-3.true) (word ∙ c.signed_word-in-len4.ensures))

pub returns-in_default : goal.returns-in_default
returns-in_default c = sym (ap integer_at (nothing c.args.content.now c.in_default.len_below) ∙ integer_at-none)

pub returns-in_default-2 : goal.returns-in_default-2
returns-in_default-2 c = sym (integer_at-padded c.args.content.now c.in-len2.len_at_least (sym c.starts_padded.ensures ∙ c.if-not-starts_padded.false))

pub returns-in_default-3 : goal.returns-in_default-3
returns-in_default-3 c = sym (integer_at-padded c.args.content.now (omega (arith, c.in-len3.len_at_least)) (sym c.starts_padded-then-content-lt4.ensures ∙ c.if-not-starts_padded-2.false))

pub returns-in_default-4 : goal.returns-in_default-4
returns-in_default-4 c = sym (integer_at-padded c.args.content.now (omega (arith, c.in-len4.len_at_least)) (sym c.starts_padded-then-content-lt5.ensures ∙ c.if-not-starts_padded-3.false))

pub returns-in_default-5 : goal.returns-in_default-5
returns-in_default-5 c = sym (integer_at-long c.args.content.now c.in_default.len_at_least)
