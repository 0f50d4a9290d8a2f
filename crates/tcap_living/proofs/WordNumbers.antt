-- What a line asks for, by the number of its words.
use Rattle.std.proofs.Common.{◌≡◌, ℕ, List, [], ◌∷◌, None, refl, length, slice_index_or, arith}
use Rattle.ber_core.specs.Place.{Slice}
use Rattle.tcap_play.specs.LineViews.{texts_of}
use Rattle.tcap_play.specs.ScriptLine.{invoke_request_of}
use Rattle.tcap_living.specs.LiveLine.{line_of, line_of_one, line_of_two, line_of_three, line_of_four, line_of_five, line_of_eight}

-- what an index gives where there is no word
abbrev pub no_word : Slice
no_word = record { ref_ptr = (0, 0); now = [] }

-- the word at a place
abbrev pub word_at : List Slice → ℕ → List ℕ
word_at words i = (slice_index_or words i no_word).now

-- a line of one word
pub one_words : (words : List Slice) → length words ≡ 1
    → line_of (texts_of words) ≡ line_of_one (word_at words 0)
one_words [] count = grind (arith, count)
one_words (w0 ∷ []) count = refl
one_words (w0 ∷ w1 ∷ ws) count = grind (arith, count)

-- a line of two words
pub two_words : (words : List Slice) → length words ≡ 2
    → line_of (texts_of words) ≡ line_of_two (word_at words 0) (word_at words 1)
two_words [] count = grind (arith, count)
two_words (w0 ∷ []) count = grind (arith, count)
two_words (w0 ∷ w1 ∷ []) count = refl
two_words (w0 ∷ w1 ∷ w2 ∷ ws) count = grind (arith, count)

-- a line of three words
pub three_words : (words : List Slice) → length words ≡ 3
    → line_of (texts_of words) ≡ line_of_three (word_at words 0) (word_at words 1) (word_at words 2)
three_words [] count = grind (arith, count)
three_words (w0 ∷ []) count = grind (arith, count)
three_words (w0 ∷ w1 ∷ []) count = grind (arith, count)
three_words (w0 ∷ w1 ∷ w2 ∷ []) count = refl
three_words (w0 ∷ w1 ∷ w2 ∷ w3 ∷ ws) count = grind (arith, count)

-- a line of four words
pub four_words : (words : List Slice) → length words ≡ 4
    → line_of (texts_of words) ≡ line_of_four (word_at words 0) (word_at words 1) (word_at words 2) (word_at words 3)
four_words [] count = grind (arith, count)
four_words (w0 ∷ []) count = grind (arith, count)
four_words (w0 ∷ w1 ∷ []) count = grind (arith, count)
four_words (w0 ∷ w1 ∷ w2 ∷ []) count = grind (arith, count)
four_words (w0 ∷ w1 ∷ w2 ∷ w3 ∷ []) count = refl
four_words (w0 ∷ w1 ∷ w2 ∷ w3 ∷ w4 ∷ ws) count = grind (arith, count)

-- a line of five words
pub five_words : (words : List Slice) → length words ≡ 5
    → line_of (texts_of words) ≡ line_of_five (word_at words 0) (word_at words 1) (word_at words 2) (word_at words 3) (word_at words 4)
five_words [] count = grind (arith, count)
five_words (w0 ∷ []) count = grind (arith, count)
five_words (w0 ∷ w1 ∷ []) count = grind (arith, count)
five_words (w0 ∷ w1 ∷ w2 ∷ []) count = grind (arith, count)
five_words (w0 ∷ w1 ∷ w2 ∷ w3 ∷ []) count = grind (arith, count)
five_words (w0 ∷ w1 ∷ w2 ∷ w3 ∷ w4 ∷ []) count = refl
five_words (w0 ∷ w1 ∷ w2 ∷ w3 ∷ w4 ∷ w5 ∷ ws) count = grind (arith, count)

-- a line of eight words
pub eight_words : (words : List Slice) → length words ≡ 8
    → line_of (texts_of words) ≡ line_of_eight (word_at words 0) (word_at words 1) (invoke_request_of (word_at words 2) (word_at words 3) (word_at words 4) (word_at words 5) (word_at words 6) (word_at words 7))
eight_words [] count = grind (arith, count)
eight_words (w0 ∷ []) count = grind (arith, count)
eight_words (w0 ∷ w1 ∷ []) count = grind (arith, count)
eight_words (w0 ∷ w1 ∷ w2 ∷ []) count = grind (arith, count)
eight_words (w0 ∷ w1 ∷ w2 ∷ w3 ∷ []) count = grind (arith, count)
eight_words (w0 ∷ w1 ∷ w2 ∷ w3 ∷ w4 ∷ []) count = grind (arith, count)
eight_words (w0 ∷ w1 ∷ w2 ∷ w3 ∷ w4 ∷ w5 ∷ []) count = grind (arith, count)
eight_words (w0 ∷ w1 ∷ w2 ∷ w3 ∷ w4 ∷ w5 ∷ w6 ∷ []) count = grind (arith, count)
eight_words (w0 ∷ w1 ∷ w2 ∷ w3 ∷ w4 ∷ w5 ∷ w6 ∷ w7 ∷ []) count = refl
eight_words (w0 ∷ w1 ∷ w2 ∷ w3 ∷ w4 ∷ w5 ∷ w6 ∷ w7 ∷ w8 ∷ ws) count = grind (arith, count)

-- a line of any other number of words asks for nothing
pub other_words : (words : List Slice) → (length words ≡ 1 → ⊥) → (length words ≡ 2 → ⊥) → (length words ≡ 3 → ⊥) → (length words ≡ 4 → ⊥) → (length words ≡ 5 → ⊥) → (length words ≡ 8 → ⊥)
    → None ≡ line_of (texts_of words)
other_words [] h1 h2 h3 h4 h5 h8 = refl
other_words (w0 ∷ []) h1 h2 h3 h4 h5 h8 = absurd (h1 refl)
other_words (w0 ∷ w1 ∷ []) h1 h2 h3 h4 h5 h8 = absurd (h2 refl)
other_words (w0 ∷ w1 ∷ w2 ∷ []) h1 h2 h3 h4 h5 h8 = absurd (h3 refl)
other_words (w0 ∷ w1 ∷ w2 ∷ w3 ∷ []) h1 h2 h3 h4 h5 h8 = absurd (h4 refl)
other_words (w0 ∷ w1 ∷ w2 ∷ w3 ∷ w4 ∷ []) h1 h2 h3 h4 h5 h8 = absurd (h5 refl)
other_words (w0 ∷ w1 ∷ w2 ∷ w3 ∷ w4 ∷ w5 ∷ []) h1 h2 h3 h4 h5 h8 = refl
other_words (w0 ∷ w1 ∷ w2 ∷ w3 ∷ w4 ∷ w5 ∷ w6 ∷ []) h1 h2 h3 h4 h5 h8 = refl
other_words (w0 ∷ w1 ∷ w2 ∷ w3 ∷ w4 ∷ w5 ∷ w6 ∷ w7 ∷ []) h1 h2 h3 h4 h5 h8 = absurd (h8 refl)
other_words (w0 ∷ w1 ∷ w2 ∷ w3 ∷ w4 ∷ w5 ∷ w6 ∷ w7 ∷ w8 ∷ ws) h1 h2 h3 h4 h5 h8 = refl
