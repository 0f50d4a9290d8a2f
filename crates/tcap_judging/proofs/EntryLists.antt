-- Lists of entries one after the other, and their texts.
use Rattle.std.proofs.Common.{◌≡◌, ◌+◌, ◌∙◌, ◌++◌, ◌∷◌, ℕ, Bool, true, false, ◌&&◌, List, [], length, Option, refl, sym, ap, subst, arith, append-nil}
use Rattle.std.proofs.lemmas.Grind.{flat_map-append}
use Rattle.std.proofs.lemmas.List.Folds.{list_all-append}
use Rattle.std.specs.Io.KnownBytes.{Appends}
use Rattle.tcap_words.specs.Writing.{IsFront}
use Rattle.tcap_judging.specs.Entry.{Entry, line, numbered}
use Rattle.tcap_judging.specs.EntryText.{entry_text, entries_text, is_good_entry, are_good}
use Rattle.tcap_judging.specs.Form.{Form}
use Rattle.tcap_judging.specs.declared.naming.Naming.{Naming}

pub text-append : (form : Form) (xs ys : List Entry) → entries_text form (xs ++ ys) ≡ entries_text form xs ++ entries_text form ys
text-append form xs ys = flat_map-append (entry_text form) xs ys

pub good-append : (xs ys : List Entry) → are_good (xs ++ ys) ≡ (are_good xs && are_good ys)
good-append xs ys = list_all-append is_good_entry xs ys

pub text-alone : (form : Form) (x : Entry) → entries_text form (x ∷ []) ≡ entry_text form x
text-alone form x = append-nil (entry_text form x)

pub good-alone : (x : Entry) → are_good (x ∷ []) ≡ is_good_entry x
good-alone x = by (is_good_entry x) where
  by : (b : Bool) → (b && true) ≡ b
  by true = refl
  by false = refl

-- whether all are good, and more
pub good-more : (xs ys : List Entry) (good judged : Bool) → good ≡ are_good xs → judged ≡ are_good ys → (good && judged) ≡ are_good (xs ++ ys)
good-more xs ys good judged e j = ap (λ (b : Bool). b && judged) e ∙ ap (λ (b : Bool). are_good xs && b) j ∙ sym (good-append xs ys)

pub numbered-append : (naming : Naming) (number : ℕ) (xs ys : List (List ℕ)) → numbered naming number (xs ++ ys) ≡ numbered naming number xs ++ numbered naming (number + length xs) ys
numbered-append naming number [] ys = ap (λ n. numbered naming n ys) (omega arith)
numbered-append naming number (x ∷ xs) ys =
    let more = numbered-append naming (number + 1) xs ys in
    ap (λ es. line naming number x ∷ es) (more ∙ ap (λ n. numbered naming (number + 1) xs ++ numbered naming n ys) (omega arith))

-- ---- what is written

pub front-as : {old new : Option (List ℕ)} {text words : List ℕ} → text ≡ words → IsFront text old new → IsFront words old new
front-as {old} {new} e w = subst (λ t. IsFront t old new) e w

pub appends-as : (old new : Option (List ℕ)) {text words : List ℕ} → text ≡ words → Appends old new text → Appends old new words
appends-as old new e w = subst (Appends old new) e w
