-- Messages that begin octets, one after the other.
use Rattle.std.proofs.Common.{◌≡◌, ◌≤◌, ◌<◌, ◌+◌, ◌++◌, ◌∙◌, ◌∷◌, ◌&&◌, ℕ, Bool, true, List, [], length, take, drop, Option, None, refl, sym, ap, arith, append_assoc, append-nil}
use Rattle.std.proofs.lemmas.List.{drop_at, length-append, length-take, take-append-drop}
use Rattle.ber_core.proofs.CallerLemmas.{IsElement-longer, after_messages, cut-message}
use Rattle.ber_core.specs.declared.fault.FeedFault.{FeedFault}
use Rattle.ber_core.specs.Element.{IsElement, Parts, depth_limit}
use Rattle.ber_core.specs.Stream.{cut_by, cut_into, cut_of, with_message}
use Rattle.tcap_judging.proofs.EntryLists.{good-alone, good-more, text-alone, text-append}
use Rattle.tcap_judging.specs.Entry.{broken_entries, message, message_entries, octets_in}
use Rattle.tcap_judging.specs.EntryText.{are_good, entries_text, entry_text, is_good_entry}
use Rattle.tcap_judging.specs.StreamSteps.{AddsMessages, AddsOctets}
use Rattle.tcap_judging.specs.Form.{Form}
use Rattle.tcap_words.specs.Verdict.{message_limit}

-- an element within the limit is the first message
pub message-first : (octets : List ℕ) (e : Parts) (rest : List ℕ) → IsElement depth_limit e → take 65535 octets ≡ e.whole ++ rest
    → (0 < length e.whole) × (length e.whole ≤ length octets) × (length e.whole ≤ message_limit) × IsElement depth_limit e × (cut_of octets ≡ with_message e.whole (cut_of (drop (length e.whole) octets)))
message-first octets e rest h is =
    let more = rest ++ drop 65535 octets in
    let parts : octets ≡ e.whole ++ more = sym (take-append-drop 65535 octets) ∙ ap (λ w. w ++ drop 65535 octets) is ∙ append_assoc e.whole rest (drop 65535 octets) in
    let filled : length {A = ℕ} [] < length e.whole = IsElement-longer depth_limit e [] e.whole h (sym (append-nil e.whole)) in
    let sizes : length (take 65535 octets) ≡ length e.whole + length rest = ap length is ∙ length-append e.whole rest in
    let small : length e.whole ≤ 65535 = omega (arith, sizes, length-take 65535 octets) in
    let within : length e.whole ≤ length octets = omega (arith, sizes, length-take 65535 octets) in
    let behind : drop (length e.whole) octets ≡ more = ap (drop (length e.whole)) parts ∙ drop_at e.whole more (length e.whole) refl in
    (omega (arith, filled), within, small, h, ap cut_of parts ∙ cut-message e more (h, small) ∙ ap (λ w. with_message e.whole (cut_of w)) (sym behind))

-- ---- messages with their offsets

pub messages-append : (offset : ℕ) (xs ys : List (List ℕ)) → message_entries offset (xs ++ ys) ≡ message_entries offset xs ++ message_entries (offset + octets_in xs) ys
messages-append offset [] ys = ap (λ n. message_entries n ys) (omega arith)
messages-append offset (x ∷ xs) ys =
    let more = messages-append (offset + length x) xs ys in
    ap (λ es. message offset x ∷ es) (more ∙ ap (λ n. message_entries (offset + length x) xs ++ message_entries n ys) (omega arith))

pub octets-append : (xs ys : List (List ℕ)) → octets_in (xs ++ ys) ≡ octets_in xs + octets_in ys
octets-append [] ys = omega arith
octets-append (x ∷ xs) ys = let more = octets-append xs ys in omega (arith, more)

-- ---- the messages so far

pub record IsSoFar (form : Form) (octets rest : List ℕ) (offset place : ℕ) (old new : List ℕ) (good : Bool) : Type 0 where
  pub messages : List (List ℕ)
  pub is_cut : cut_of octets ≡ after_messages messages (cut_of rest)
  pub is_place : place ≡ offset + octets_in messages
  pub added : new ≡ old ++ entries_text form (message_entries offset messages)
  pub verdict : good ≡ are_good (message_entries offset messages)

pub none-so-far : (form : Form) (octets : List ℕ) (offset : ℕ) (old : List ℕ) → IsSoFar form octets octets offset offset old old true
none-so-far form octets offset old = record { messages = []; is_cut = refl; is_place = omega arith; added = sym (append-nil old); verdict = refl }

module _ (form : Form) (octets rest : List ℕ) (offset place : ℕ) (old mid : List ℕ) (good : Bool) (s : IsSoFar form octets rest offset place old mid good) where
  -- one more
  pub one-more : (m after new : List ℕ) (later : ℕ) (judged : Bool) → cut_of rest ≡ with_message m (cut_of after) → later ≡ place + length m
      → new ≡ mid ++ entry_text form (message place m) → judged ≡ is_good_entry (message place m) → IsSoFar form octets after offset later old new (good && judged)
  one-more m after new later judged cut next added judges =
      let told = message_entries offset s.messages in
      let more : message_entries offset (s.messages ++ (m ∷ [])) ≡ told ++ (message place m ∷ []) = messages-append offset s.messages (m ∷ []) ∙ ap (λ n. told ++ (message n m ∷ [])) (sym s.is_place) in
      record {
        messages = s.messages ++ (m ∷ []);
        is_cut = s.is_cut ∙ ap (after_messages s.messages) cut ∙ ap (λ ms. cut_into ms (cut_of after).rest (cut_of after).fault) (sym (append_assoc s.messages (m ∷ []) (cut_of after).messages));
        is_place = next ∙ omega (arith, s.is_place, octets-append s.messages (m ∷ []));
        added = added ∙ ap (λ t. t ++ entry_text form (message place m)) s.added ∙ append_assoc old (entries_text form told) (entry_text form (message place m)) ∙ ap (λ t. old ++ t) (ap (λ t. entries_text form told ++ t) (sym (text-alone form (message place m))) ∙ sym (text-append form told (message place m ∷ [])) ∙ ap (entries_text form) (sym more));
        verdict = good-more told (message place m ∷ []) good judged s.verdict (judges ∙ sym (good-alone (message place m))) ∙ ap are_good (sym more);
      }

  -- no message is left
  pub stopped : (fault : Option FeedFault) → cut_of rest ≡ cut_into [] rest fault → AddsMessages form octets offset rest place fault old mid good
  stopped fault stops = record {
    messages = s.messages;
    is_cut = s.is_cut ∙ ap (after_messages s.messages) stops ∙ ap (λ ms. cut_into ms rest fault) (append-nil s.messages);
    is_rest = stops;
    is_next = s.is_place;
    added = s.added;
    verdict = s.verdict;
  }

-- nothing is left
pub none-left : (rest : List ℕ) → length rest ≡ 0 → cut_of rest ≡ cut_into [] rest None
unfolding cut_by
none-left [] h = refl
none-left (b ∷ rest) h = absurd (omega (arith, h))

-- what stands behind the messages, told and kept
pub adds-octets : (form : Form) (octets all : List ℕ) (offset : ℕ) (rest kept : List ℕ) (next : ℕ) (fault : Option FeedFault) (old mid new : List ℕ) (good judged : Bool) → AddsMessages form octets offset rest next fault old mid good → octets ≡ all → kept ≡ rest
    → new ≡ mid ++ entries_text form (broken_entries next rest fault) → judged ≡ are_good (broken_entries next rest fault) → AddsOctets form all offset kept next fault old new (good && judged)
adds-octets form octets all offset rest kept next fault old mid new good judged a same keeps added judges =
    let told = message_entries offset a.messages in
    let behind = broken_entries next rest fault in
    record {
      made = told ++ behind;
      takes = record {
        messages = a.messages;
        is_cut = ap cut_of (sym same) ∙ a.is_cut ∙ ap (λ k. cut_into a.messages k fault) (sym keeps);
        is_next = a.is_next;
        are_made = ap (λ k. told ++ broken_entries next k fault) (sym keeps);
      };
      added = added ∙ ap (λ t. t ++ entries_text form behind) a.added ∙ append_assoc old (entries_text form told) (entries_text form behind) ∙ ap (λ t. old ++ t) (sym (text-append form told behind));
      verdict = good-more told behind good judged a.verdict judges;
    }
