use Rattle.std.proofs.Common.{◌≡◌, ℕ, ◌+◌, ◌<◌, ◌≤◌, List, [], ◌∷◌, length, take, refl, sym, ap, subst, ◌∙◌, inl, inr, arith}
use Rattle.std.proofs.lemmas.Bool.{lt-ltb, le-ltb}
use Rattle.std.proofs.lemmas.List.{append-nil, take_all, length-take}
use Rattle.ber_core.specs.declared.fault.BerFault.TheVariants.{Short}
use Rattle.ber_core.specs.Length.{IsLength, number_after}
use Rattle.ber_core.specs.Tag.{IsTag}
use Rattle.ber_core.specs.Element.{Parts, IsElement}
use Rattle.ber_core.specs.Fault.{ElementFault}
use Rattle.ber_core.specs.Fault.ElementFault.{in_content}
use Rattle.ber_core.specs.Stream.{IsMessage, cut_into, cut_by, cut_of}
use Rattle.ber_core.proofs.CutGrammar.{cut-message, cut-stops}
use Rattle.ber_core.proofs.examples.at_the_limit.Goals as goal

begins : IsTag (0x62 ∷ [])
begins = ((λ e. absurd (omega arith)), refl)

says : (low n : ℕ) → n ≡ 0xff00 + low → n ≤ 65535 → IsLength (0x82 ∷ 0xff ∷ low ∷ []) n
unfolding number_after
says low n is le = inr (omega arith, (λ e. absurd (omega arith)), refl, is, le)

ends_in_content : (content : List ℕ) → length content < 65535 → ElementFault 32 (0x62 ∷ 0x82 ∷ 0xff ∷ 0xff ∷ content) Short
ends_in_content content lt = in_content 32 65535 (0x62 ∷ []) (0x82 ∷ 0xff ∷ 0xff ∷ []) content begins (says 0xff 65535 refl (omega arith)) lt

message : List ℕ → Parts
message content = record { tag = 0x62 ∷ []; content = content; whole = 0x62 ∷ 0x82 ∷ 0xff ∷ 0xfb ∷ content }

is_message : (content : List ℕ) → length content ≡ 65531 → IsMessage (message content)
unfolding IsElement message
is_message content n = (inl (record { octets = 0x82 ∷ 0xff ∷ 0xfb ∷ []; is_tag = begins; is_length = says 0xfb (length content) n (omega (arith, n)); is_whole = refl }), omega (arith, n))

pub returns-clause-held : goal.returns-clause-held
returns-clause-held c = λ content n.
    let stream = 0x62 ∷ 0x82 ∷ 0xff ∷ 0xff ∷ content in
    let size : length stream ≤ 65535 = omega (arith, n) in
    cut-stops stream Short (subst (λ (w : List ℕ). ElementFault 32 w Short) (sym (take_all 65535 stream size)) (ends_in_content content (omega (arith, n))))
    ∙ ap (cut_into [] stream) (rw (le-ltb 65535 (length stream) size) refl)

pub returns-clause-too_long : goal.returns-clause-too_long
returns-clause-too_long c = λ content n.
    let stream = 0x62 ∷ 0x82 ∷ 0xff ∷ 0xff ∷ content in
    cut-stops stream Short (ends_in_content (take 65531 content) (omega (arith, n, length-take 65531 content)))
    ∙ ap (cut_into [] stream) (rw (lt-ltb 65535 (length stream) (omega (arith, n))) refl)

pub returns-clause-whole : goal.returns-clause-whole
unfolding message cut_by
returns-clause-whole c = λ content n. ap cut_of (sym (append-nil (0x62 ∷ 0x82 ∷ 0xff ∷ 0xfb ∷ content))) ∙ cut-message (message content) [] (is_message content n)
