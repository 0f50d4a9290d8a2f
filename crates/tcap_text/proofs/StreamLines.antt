-- Lines of verdicts that are written one after the other, or not all of them.
use Rattle.std.proofs.Common.{◌≡◌, ◌<◌, ◌+◌, ◌++◌, ◌∙◌, ◌∷◌, ◌&&◌, ℕ, map, drop, get_or, Bool, true, false, List, [], length, Option, refl, sym, ap, subst, arith, append_assoc, append-nil}
use Rattle.std.proofs.KnownBytes.{Appends-nil, Appends-trans}
use Rattle.std.proofs.lemmas.Grind.{flat_map-append}
use Rattle.std.proofs.lemmas.List.{drop_more, length-append}
use Rattle.std.proofs.lemmas.List.Folds.{list_all-append}
use Rattle.std.specs.Io.KnownBytes.{Appends}
use Rattle.tcap_text.specs.StreamSteps.{IsUntold}
use Rattle.tcap_text.specs.StreamText.{all_good, verdict_lines}
use Rattle.tcap_text.specs.declared.fault.PlayFault.{PlayFault}
use Rattle.tcap_text.specs.declared.fault.PlayFault.TheVariants as fault
use Rattle.tcap_words.specs.Show.{check_text_of, show_is_good}
use Rattle.tcap_words.specs.Writing.{IsFront}

-- ---- prefixes of texts

-- a front behind a text that was written whole
pub front-behind : (lead text : List ℕ) (a b c : Option (List ℕ)) → Appends a b lead → IsFront text b c → IsFront (lead ++ text) a c
front-behind lead text a b c w f = record {
  front = lead ++ f.front;
  rest = f.rest;
  is_text = ap (λ t. lead ++ t) f.is_text ∙ sym (append_assoc lead f.front f.rest);
  is_cut = f.is_cut;
  written = Appends-trans a b c lead f.front w f.written;
}

-- a prefix of a text is one of a longer text
pub front-before : (text more : List ℕ) (a b : Option (List ℕ)) → IsFront text a b → IsFront (text ++ more) a b
front-before text more a b f = record {
  front = f.front;
  rest = f.rest ++ more;
  is_text = ap (λ t. t ++ more) f.is_text ∙ append_assoc f.front f.rest more;
  is_cut = omega (arith, f.is_cut, length-append f.rest more);
  written = f.written;
}

-- ---- lines of messages

pub lines-append : (xs ys : List (List ℕ)) → verdict_lines (xs ++ ys) ≡ verdict_lines xs ++ verdict_lines ys
lines-append xs ys = flat_map-append check_text_of xs ys

pub line-alone : (m : List ℕ) → verdict_lines (m ∷ []) ≡ check_text_of m
line-alone m = append-nil (check_text_of m)

-- behind lines that were written
pub untold-behind : (xs ys : List (List ℕ)) (a b c : Option (List ℕ)) (f : PlayFault) → Appends a b (verdict_lines xs) → IsUntold ys b c f → IsUntold (xs ++ ys) a c f
untold-behind xs ys a b c fault.OutOfMemory w u = record {
  told = xs ++ u.told;
  untold = u.untold;
  are_messages = ap (λ z. xs ++ z) u.are_messages ∙ sym (append_assoc xs u.told u.untold);
  written = subst (Appends a c) (sym (lines-append xs u.told)) (Appends-trans a b c _ _ w u.written);
}
untold-behind xs ys a b c fault.Read w u = u
untold-behind xs ys a b c fault.Write w u = subst (λ t. IsFront t a c) (sym (lines-append xs ys)) (front-behind (verdict_lines xs) (verdict_lines ys) a b c w u)
untold-behind xs ys a b c fault.TooLong w u = u

-- of more messages
pub untold-before : (xs ys : List (List ℕ)) (a b : Option (List ℕ)) (f : PlayFault) → IsUntold xs a b f → IsUntold (xs ++ ys) a b f
untold-before xs ys a b fault.OutOfMemory u = record {
  told = u.told;
  untold = u.untold ++ ys;
  are_messages = ap (λ z. z ++ ys) u.are_messages ∙ append_assoc u.told u.untold ys;
  written = u.written;
}
untold-before xs ys a b fault.Read u = u
untold-before xs ys a b fault.Write u = subst (λ t. IsFront t a b) (sym (lines-append xs ys)) (front-before (verdict_lines xs) (verdict_lines ys) a b u)
untold-before xs ys a b fault.TooLong u = u

-- ---- some of the messages

-- the lines of all messages but those that are left were written, and this tells whether all are good
pub record IsSoFar (messages left : List (List ℕ)) (old new : Option (List ℕ)) (good : Bool) : Type 0 where
  pub told : List (List ℕ)
  pub are_messages : messages ≡ told ++ left
  pub written : Appends old new (verdict_lines told)
  pub verdict : good ≡ all_good told

-- none yet
pub none-so-far : (messages : List (List ℕ)) (old : Option (List ℕ)) → IsSoFar messages messages old old true
none-so-far messages old = record { told = []; are_messages = refl; written = Appends-nil old; verdict = refl }

and-true : (a : Bool) → a ≡ (a && true)
and-true true = refl
and-true false = refl

-- whether all are good, with one more
good-more : (told : List (List ℕ)) (m : List ℕ) (judged good : Bool) → good ≡ all_good told → judged ≡ show_is_good m → (good && judged) ≡ all_good (told ++ (m ∷ []))
good-more told m judged good e j =
    ap (λ (b : Bool). b && judged) e ∙ ap (λ (b : Bool). all_good told && b) (j ∙ and-true (show_is_good m)) ∙ sym (list_all-append show_is_good told (m ∷ []))

-- one more
pub one-more : (messages here left : List (List ℕ)) (m : List ℕ) (a b c : Option (List ℕ)) (good judged : Bool) → here ≡ m ∷ left → IsSoFar messages here a b good → Appends b c (check_text_of m) → judged ≡ show_is_good m → IsSoFar messages left a c (good && judged)
one-more messages here left m a b c good judged is s w j = record {
  told = s.told ++ (m ∷ []);
  are_messages = s.are_messages ∙ ap (λ z. s.told ++ z) is ∙ sym (append_assoc s.told (m ∷ []) left);
  written = subst (Appends a c) (ap (λ t. verdict_lines s.told ++ t) (sym (line-alone m)) ∙ sym (lines-append s.told (m ∷ []))) (Appends-trans a b c _ _ s.written w);
  verdict = good-more s.told m judged good s.verdict j;
}

-- all of them
pub all-told : (messages : List (List ℕ)) (a b : Option (List ℕ)) (good : Bool) → IsSoFar messages [] a b good → Appends a b (verdict_lines messages) × (good ≡ all_good messages)
all-told messages a b good s =
    let e : s.told ≡ messages = sym (append-nil s.told) ∙ sym s.are_messages in
    (subst (λ ms. Appends a b (verdict_lines ms)) e s.written, s.verdict ∙ ap all_good e)

-- one is not told
pub one-untold : (messages here left : List (List ℕ)) (m : List ℕ) (a b c : Option (List ℕ)) (good : Bool) (f : PlayFault) → here ≡ m ∷ left → IsSoFar messages here a b good → IsUntold (m ∷ []) b c f → IsUntold messages a c f
one-untold messages here left m a b c good f is s u =
    subst (λ ms. IsUntold ms a c f) (sym (s.are_messages ∙ ap (λ z. s.told ++ z) is)) (untold-behind s.told (m ∷ left) a b c f s.written (untold-before (m ∷ []) left b c f u))

-- the octets of what is left, of which this is the first
pub from-here : {V : Type 0} (octets : V → List ℕ) (items : List V) (i : ℕ) (item : V) → i < length items → item ≡ get_or items i item → map octets (drop i items) ≡ octets item ∷ map octets (drop (i + 1) items)
from-here octets items i item within is =
    ap (λ xs. map octets xs) (drop_more items i item within) ∙ ap (λ x. octets x ∷ map octets (drop (i + 1) items)) (sym is)
