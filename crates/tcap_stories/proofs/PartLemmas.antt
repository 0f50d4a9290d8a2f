-- Parts of a text, one added behind the other.
use Rattle.std.proofs.Common.{◌≡◌, ◌++◌, ℕ, List, ap, ◌∙◌, append_assoc}

pub all_two : (old one two a b : List ℕ) → one ≡ old ++ a → two ≡ one ++ b → two ≡ old ++ (a ++ b)
all_two old one two a b p q = q ∙ (ap (λ w. w ++ b) p ∙ append_assoc old a b)

pub all_three : (old one two three a b c : List ℕ) → one ≡ old ++ a → two ≡ one ++ b → three ≡ two ++ c → three ≡ old ++ (a ++ (b ++ c))
all_three old one two three a b c p q r = all_two old one three a (b ++ c) p (all_two one two three b c q r)

pub all_four : (old one two three four a b c d : List ℕ) → one ≡ old ++ a → two ≡ one ++ b → three ≡ two ++ c → four ≡ three ++ d → four ≡ old ++ (a ++ (b ++ (c ++ d)))
all_four old one two three four a b c d p q r s = all_two old one four a (b ++ (c ++ d)) p (all_three one two three four b c d q r s)
