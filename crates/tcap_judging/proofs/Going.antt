-- An input that is read piece by piece, whatever it tells.
use Rattle.std.proofs.Common.{◌≡◌, ◌≢◌, ◌≤◌, ◌<◌, ◌+◌, ◌++◌, ◌∙◌, ◌&&◌, ℕ, Bool, true, List, [], ◌∷◌, inl, inr, length, Option, refl, sym, ap, subst, take, arith, append-nil}
use Rattle.std.proofs.KnownBytes.{Appends-nil, Appends-trans, Consumes-kept, Consumes-nil, Consumes-trans}
use Rattle.std.proofs.lemmas.List.{length-append}
use Rattle.std.specs.Io.KnownBytes.{Appends, Consumes, IsAtEnd, Keeps}
use Rattle.tcap_judging.proofs.EntryLists.{good-more, text-append}
use Rattle.tcap_judging.specs.Entry.{Entry, IsBroken}
use Rattle.tcap_judging.specs.EntryText.{are_good, entries_text}
use Rattle.tcap_judging.specs.Run.{IsCut, IsEndless, IsHalted, IsJudged, IsShort}
use Rattle.tcap_words.specs.Writing.{IsFront}
use Rattle.tcap_judging.specs.Form.{Form}

module _ (form : Form) (Tells : List ℕ → List Entry → List Entry → Type 0) where
  -- the text of all entries so far was written, and each read gave an octet
  pub record IsGoing (had left old new : Option (List ℕ)) (good : Bool) (reads : ℕ) : Type 0 where
    pub input : List ℕ
    pub entries : List Entry
    pub last : List Entry
    pub given : Consumes had left input
    pub tells : Tells input entries last
    pub written : Appends old new (entries_text form entries)
    pub verdict : good ≡ are_good entries
    pub many : reads ≤ length input

  -- nothing was read
  abbrev pub begun : (had old : Option (List ℕ)) (last : List Entry) → Tells [] [] last → IsGoing had had old old true 0
  begun had old last tells = record {
    input = [];
    entries = [];
    last = last;
    given = Consumes-nil had;
    tells = tells;
    written = Appends-nil old;
    verdict = refl;
    many = omega arith;
  }

  not-empty : (piece : List ℕ) → 0 < length piece → piece ≢ []
  not-empty [] low e = absurd (omega (arith, low))
  not-empty (b ∷ piece) low e = absurd cc

  module _ (had left old mid : Option (List ℕ)) (good : Bool) (reads : ℕ) (going : IsGoing had left old mid good reads) where
    -- a read failed
    pub halted : (now : Option (List ℕ)) → Keeps left now → IsHalted form Tells had now old mid
    halted now kept = record {
      input = going.input;
      entries = going.entries;
      last = going.last;
      given = Consumes-kept had left now going.input going.given kept;
      tells = going.tells;
      written = going.written;
    }

    -- as many reads were made as may be
    pub endless : 1099511627776 ≤ reads → IsEndless form Tells had left old mid
    endless all = record {
      halted = record { input = going.input; entries = going.entries; last = going.last; given = going.given; tells = going.tells; written = going.written };
      many = omega (arith, all, going.many);
    }

    -- ---- the reader was at its end
    module _ (now : Option (List ℕ)) (count : ℕ) (room : List ℕ) (is_zero : count ≡ 0) (roomy : 0 < length room) (none : Consumes left now (take count room)) (end : count ≡ 0 → 0 < length room → IsAtEnd now) where
      all-given : Consumes had now (going.input ++ [])
      all-given = Consumes-trans had left now going.input [] going.given (subst (λ n. Consumes left now (take n room)) is_zero none)

      -- and what it tells was written
      pub finished : (new : Option (List ℕ)) (ends : Bool) → Appends mid new (entries_text form going.last) → ends ≡ are_good going.last → IsJudged form Tells had now old new (good && ends)
      finished new ends written verdict = record {
        input = going.input;
        entries = going.entries;
        last = going.last;
        given = subst (Consumes had now) (append-nil going.input) all-given;
        over = inl (end is_zero roomy);
        tells = going.tells;
        written = subst (Appends old new) (sym (text-append form going.entries going.last)) (Appends-trans old mid new _ _ going.written written);
        verdict = good-more going.entries going.last good ends going.verdict verdict;
      }

      -- memory was refused for it
      pub short-end : (new : Option (List ℕ)) → going.last ≢ [] → Appends mid new [] → IsShort form Tells had now old new
      short-end new some written = record {
        before = going.input;
        piece = [];
        entries = going.entries;
        last = going.last;
        given = all-given;
        wanted = inr (end is_zero roomy, some);
        tells = going.tells;
        written = subst (Appends old new) (append-nil (entries_text form going.entries)) (Appends-trans old mid new _ [] going.written written);
      }

      -- a write failed
      pub cut-end : (new : Option (List ℕ)) → IsFront (entries_text form going.last) mid new → IsCut form Tells had now old new
      cut-end new f = record {
        before = going.input;
        piece = [];
        entries = going.entries;
        last = going.last;
        made = going.last;
        given = all-given;
        tells = going.tells;
        are_made = inr (refl, end is_zero roomy, refl);
        front = f.front;
        rest = f.rest;
        is_text = f.is_text;
        is_cut = f.is_cut;
        written = Appends-trans old mid new _ f.front going.written f.written;
      }

    -- ---- a piece was read
    module _ (now : Option (List ℕ)) (piece : List ℕ) (read : Consumes left now piece) (some : 0 < length piece) where
      abbrev pub all-read : Consumes had now (going.input ++ piece)
      all-read = Consumes-trans had left now going.input piece going.given read

      -- and the text of what it makes was written
      abbrev pub goes-on : (new : Option (List ℕ)) (judged : Bool) (made later : List Entry) → Tells (going.input ++ piece) (going.entries ++ made) later → Appends mid new (entries_text form made) → judged ≡ are_good made → IsGoing had now old new (good && judged) (reads + 1)
      goes-on new judged made later tells written verdict = record {
        input = going.input ++ piece;
        entries = going.entries ++ made;
        last = later;
        given = all-read;
        tells = tells;
        written = subst (Appends old new) (sym (text-append form going.entries made)) (Appends-trans old mid new _ _ going.written written);
        verdict = good-more going.entries made good judged going.verdict verdict;
        many = omega (arith, going.many, some, length-append going.input piece);
      }

      -- memory was refused for it
      pub short-piece : (new : Option (List ℕ)) → Appends mid new [] → IsShort form Tells had now old new
      short-piece new written = record {
        before = going.input;
        piece = piece;
        entries = going.entries;
        last = going.last;
        given = all-read;
        wanted = inl (not-empty piece some);
        tells = going.tells;
        written = subst (Appends old new) (append-nil (entries_text form going.entries)) (Appends-trans old mid new _ [] going.written written);
      }

      -- a write failed
      pub cut-piece : (new : Option (List ℕ)) (made later : List Entry) → Tells (going.input ++ piece) (going.entries ++ made) later → IsFront (entries_text form made) mid new → IsCut form Tells had now old new
      cut-piece new made later tells f = record {
        before = going.input;
        piece = piece;
        entries = going.entries;
        last = going.last;
        made = made;
        given = all-read;
        tells = going.tells;
        are_made = inl (later, tells);
        front = f.front;
        rest = f.rest;
        is_text = f.is_text;
        is_cut = f.is_cut;
        written = Appends-trans old mid new _ f.front going.written f.written;
      }

      -- and no more is read
      pub stopped : (new : Option (List ℕ)) (judged : Bool) (made : List Entry) → Tells (going.input ++ piece) (going.entries ++ made) [] → IsBroken (going.entries ++ made) → Appends mid new (entries_text form made) → judged ≡ are_good made → IsJudged form Tells had now old new (good && judged)
      stopped new judged made tells broken written verdict =
          let same : (going.entries ++ made) ++ [] ≡ going.entries ++ made = append-nil (going.entries ++ made) in
          record {
            input = going.input ++ piece;
            entries = going.entries ++ made;
            last = [];
            given = all-read;
            over = inr (broken, refl);
            tells = tells;
            written = subst (Appends old new) (sym (text-append form going.entries made) ∙ ap (entries_text form) (sym same)) (Appends-trans old mid new _ _ going.written written);
            verdict = good-more going.entries made good judged going.verdict verdict ∙ ap are_good (sym same);
          }
