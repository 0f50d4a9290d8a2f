-- The front of a good message: its tag, and the first octet of its contents.
use Rattle.std.proofs.Common.{◌≡◌, ◌∙◌, ◌++◌, ◌∷◌, ◌&&◌, ℕ, Bool, true, false, List, [], length, map, Option, Some, None, Result, Ok, Err, nat_lt, if◌then◌else◌, refl, sym, ap, append_assoc, inl, inr}
use Rattle.std.proofs.lemmas.Bool.{cases_Bool}
use Rattle.std.specs.List.{AllByRecursion}
use Rattle.std.specs.Option.{unwrap_or}
use Rattle.ber_core.proofs.CallerLemmas.{begins, begins_again, by_result, head_again-definite, head_again-indefinite, cut_takes, IsElement-begins}
use Rattle.ber_core.specs.declared.fault.FeedFault.{FeedFault}
use Rattle.ber_core.specs.Element.{IsElement, Parts, depth_limit, joined}
use Rattle.ber_core.specs.Head.{BeginsWithHead}
use Rattle.ber_core.specs.HeadReading.{head_at}
use Rattle.ber_core.specs.Sequence.{Field, InOrder, SpellsSequence}
use Rattle.ber_core.specs.Sequence.Field.{must, may}
use Rattle.ber_core.specs.Stream.{IsMessage, cut_of}
use Rattle.ber_core.specs.Tag.{is_constructor}
use Rattle.tcap_pdu.proofs.CallerLemmas.{frame_takes}
use Rattle.tcap_pdu.specs.FrameReading.{frame_at}
use Rattle.tcap_pdu.specs.FrameSpelling.{Message, fields, message_tag}
use Rattle.tcap_pdu.specs.FrameSpelling.Message.{unidirectional, begin, end, go_on, abort}
use Rattle.tcap_pdu.specs.declared.fault.FrameFault.{FrameFault}
use Rattle.tcap_words.specs.Show.{show_is_good}
use Rattle.tcap_words.specs.Verdict.{is_good, message_by, message_limit, message_of, verdict_by}
use Rattle.tcap_words.specs.declared.verdict.Verdict.{Verdict}
use Rattle.tcap_judging.specs.Resync.{first_of, is_message_tag, may_be_good, may_begin, may_go_on, may_hold, may_hold_behind, may_lead}

-- ---- a good message is read

framed : (r : Result Message FrameFault) (long : Bool) → is_good (verdict_by (if long then Err Verdict.TooLong else message_by r)) ≡ true → (m : Message) × (r ≡ Ok m)
framed (Ok m) false h = (m, refl)
framed (Ok m) true h = absurd cc
framed (Err f) true h = absurd cc
framed (Err FrameFault.Unknown) false h = absurd cc
framed (Err FrameFault.BadlyFormatted) false h = absurd cc
framed (Err FrameFault.Incorrect) false h = absurd cc

good-framed : (octets : List ℕ) → show_is_good octets ≡ true → (m : Message) × (frame_at octets ≡ Ok m)
unfolding message_of
good-framed octets h = framed (frame_at octets) (nat_lt message_limit (length octets)) h

-- ---- its contents begin with the tag of their first element

abbrev BeginWith : ℕ → List ℕ → Type 0
BeginWith n octets = (others : List ℕ) × (octets ≡ n ∷ others)

tag-first : (n : ℕ) (e : Parts) (es : List Parts) → IsElement depth_limit e → e.tag ≡ n ∷ [] → BeginWith n (joined (e ∷ es))
tag-first n e es h t =
    let b = IsElement-begins depth_limit e h in
    (b.0 ++ joined es, ap (λ (w : List ℕ). w ++ joined es) (b.1 ∙ ap (λ (tag : List ℕ). tag ++ b.0) t))

must-first : (n : ℕ) (c : List ℕ) (fs : List Field) (es : List Parts) → AllByRecursion (IsElement depth_limit) es → InOrder (must n c ∷ fs) es → BeginWith n (joined es)
unfolding InOrder
must-first n c fs [] each h = absurd h.0
must-first n c fs (e ∷ es) each (inl h) = tag-first n e es each.0 h.0.0
must-first n c fs (e ∷ es) each (inr h) = absurd h.0

abbrev Leads : ℕ → List ℕ → Type 0
Leads tag content = (first : ℕ) × BeginWith first content × (may_lead tag first ≡ true)

portion-first : (d : Option (List ℕ)) (c : List ℕ) (es : List Parts) → AllByRecursion (IsElement depth_limit) es → InOrder (may 0x6b d ∷ must 0x6c c ∷ []) es → Leads 0x61 (joined es)
unfolding InOrder
portion-first d c [] each h = absurd h.1.0
portion-first None c (e ∷ es) each (inl h) = absurd h.0
portion-first (Some x) c (e ∷ es) each (inl h) = (0x6b, tag-first 0x6b e es each.0 h.0.0, refl)
portion-first d c (e ∷ es) each (inr h) = (0x6c, must-first 0x6c c [] (e ∷ es) each h.1, refl)

content-leads : (m : Message) (content : List ℕ) → SpellsSequence (fields m) content → Leads (message_tag m) content
content-leads m content s = by m s.in_order where
  same : (first : ℕ) → BeginWith first (joined s.elements) → BeginWith first content
  same first b = (b.0, s.is_list.is_joined ∙ b.1)

  by : (m : Message) → InOrder (fields m) s.elements → Leads (message_tag m) content
  by (unidirectional d c) o = let l = portion-first d c s.elements s.is_list.each o in (l.0, same l.0 l.1, l.2)
  by (begin id d c) o = (0x48, same 0x48 (must-first 0x48 id _ s.elements s.is_list.each o), refl)
  by (end id d c) o = (0x49, same 0x49 (must-first 0x49 id _ s.elements s.is_list.each o), refl)
  by (go_on id t d c) o = (0x48, same 0x48 (must-first 0x48 id _ s.elements s.is_list.each o), refl)
  by (abort id r) o = (0x49, same 0x49 (must-first 0x49 id _ s.elements s.is_list.each o), refl)

-- ---- and stand behind its head

abbrev StandsBehind : Parts → List ℕ → Type 0
StandsBehind e octets = (len : Option ℕ) × (tail : List ℕ) × (head_at octets ≡ Ok (e.tag, is_constructor e.tag, len, e.content ++ tail))

head-behind : (e : Parts) (rest : List ℕ) → IsElement depth_limit e → StandsBehind e (e.whole ++ rest)
unfolding IsElement
head-behind e rest (inl h) =
    let parts : e.whole ++ rest ≡ e.tag ++ (h.octets ++ (e.content ++ rest)) = rw (h.is_whole, append_assoc) (rw append_assoc refl) in
    (Some (length e.content), rest, ap head_at parts ∙ head_again-definite e.tag h.octets (e.content ++ rest) (length e.content) h.is_tag h.is_length)
head-behind e rest (inr h) =
    let parts : e.whole ++ rest ≡ e.tag ++ (0x80 ∷ (e.content ++ (0 ∷ 0 ∷ rest))) = rw (h.is_whole, append_assoc) (rw append_assoc refl) in
    (None, 0 ∷ 0 ∷ rest, ap head_at parts ∙ head_again-indefinite e.tag (e.content ++ (0 ∷ 0 ∷ rest)) h.is_tag h.constructs)

-- ---- so it goes on as a good message does

tag-known : (m : Message) → is_message_tag (message_tag m) ≡ true
tag-known (unidirectional d c) = refl
tag-known (begin o d c) = refl
tag-known (end t d c) = refl
tag-known (go_on o t d c) = refl
tag-known (abort t r) = refl

abbrev Head : Type 0
Head = List ℕ × Bool × Option ℕ × List ℕ

goes-by : (m : Message) (octets : List ℕ) (h : Head) (first : ℕ) (others : List ℕ) → head_at (message_tag m ∷ octets) ≡ Ok h → h.3 ≡ first ∷ others → may_lead (message_tag m) first ≡ true → may_go_on (message_tag m ∷ octets) ≡ true
goes-by m octets h first others is behind leads =
    ap (λ (t : Bool). t && may_hold_behind (message_tag m) (head_at (message_tag m ∷ octets))) (tag-known m)
    ∙ ap (may_hold_behind (message_tag m)) is ∙ ap (may_hold (message_tag m)) behind ∙ leads

pub good-goes-on : (octets more : List ℕ) → show_is_good octets ≡ true → may_go_on (octets ++ more) ≡ true
good-goes-on octets more good =
    let f = good-framed octets good in
    let s = frame_takes octets f.0 f.1 in
    let e = s.element in
    let b = IsElement-begins depth_limit e s.is_element in
    let rest = b.0 ++ more in
    let is : octets ++ more ≡ message_tag f.0 ∷ rest = ap (λ (w : List ℕ). w ++ more) (s.is_whole ∙ b.1 ∙ ap (λ (t : List ℕ). t ++ b.0) s.is_frame.is_tag) in
    let leads = content-leads f.0 e.content s.is_frame.in_sequence in
    let h = head-behind e more s.is_element in
    let head : Head = (e.tag, is_constructor e.tag, h.0, e.content ++ h.1) in
    let read : head_at (message_tag f.0 ∷ rest) ≡ Ok head = ap head_at (sym is ∙ ap (λ (w : List ℕ). w ++ more) s.is_whole) ∙ h.2 in
    ap may_go_on is ∙ goes-by f.0 rest head leads.0 (leads.1.0 ++ h.1) read (ap (λ (w : List ℕ). w ++ h.1) leads.1.1) leads.2

-- ---- where octets don't, no good message begins them

first-front : (s m : List ℕ) → first_of (cut_of s).messages ≡ Some m → (rest : List ℕ) × (s ≡ m ++ rest)
first-front s m h = let t = cut_takes s in by t.elements t.each (sym (ap first_of t.are_messages) ∙ h) t.is_joined where
  by : (es : List Parts) → AllByRecursion IsMessage es → first_of (map (λ (e : Parts). e.whole) es) ≡ Some m → s ≡ joined es ++ (cut_of s).rest → (rest : List ℕ) × (s ≡ m ++ rest)
  by [] each k is = absurd cc
  by (e ∷ es) each k is =
      let same : e.whole ≡ m = ap (λ (o : Option (List ℕ)). unwrap_or o m) k in
      let rest = joined es ++ (cut_of s).rest in
      (rest, is ∙ append_assoc e.whole (joined es) (cut_of s).rest ∙ ap (λ (w : List ℕ). w ++ rest) same)

pub begins_not : (ends : Bool) (octets : List ℕ) → may_go_on octets ≡ false → may_begin ends octets ≡ false
begins_not ends octets h = by (cut_of octets).messages refl where
  none : (ends : Bool) (fault : Option FeedFault) → may_be_good ends (may_go_on octets) [] fault ≡ false
  none true fault = refl
  none false None = h
  none false (Some why) = refl

  bad : (m : List ℕ) → first_of (cut_of octets).messages ≡ Some m → show_is_good m ≡ false
  bad m is = elim (cases_Bool (show_is_good m)) [
    | inl good ↦ let front = first-front octets m is in let goes : may_go_on octets ≡ true = ap may_go_on front.1 ∙ good-goes-on m front.0 good in let not : may_go_on octets ≡ false = h in absurd cc
    | inr not ↦ not
  ]

  by : (ms : List (List ℕ)) → (cut_of octets).messages ≡ ms → may_be_good ends (may_go_on octets) (cut_of octets).messages (cut_of octets).fault ≡ false
  by [] e = ap (λ (ms : List (List ℕ)). may_be_good ends (may_go_on octets) ms (cut_of octets).fault) e ∙ none ends (cut_of octets).fault
  by (m ∷ ms) e = ap (λ (ms : List (List ℕ)). may_be_good ends (may_go_on octets) ms (cut_of octets).fault) e ∙ bad m (ap first_of e)

-- ---- and they don't, as more come

hold-longer : (tag : ℕ) (octets more : List ℕ) → may_hold tag octets ≡ false → may_hold tag (octets ++ more) ≡ false
hold-longer tag [] more h = absurd cc
hold-longer tag (first ∷ octets) more h = h

behind-longer : (tag : ℕ) (octets more : List ℕ) → may_hold_behind tag (head_at octets) ≡ false → may_hold_behind tag (head_at (octets ++ more)) ≡ false
behind-longer tag octets more h = elim (by_result (head_at octets)) [
  | inl f ↦ let h = h in let held : may_hold_behind tag (Err f.0) ≡ false = sym (ap (may_hold_behind tag) f.1) ∙ h in absurd cc
  | inr r ↦
      let held : may_hold tag r.0.3 ≡ false = sym (ap (may_hold_behind tag) r.1) ∙ h in
      let b = begins octets r.0 r.1 in
      let parts : octets ++ more ≡ r.0.0 ++ (b.octets ++ (r.0.3 ++ more)) = ap (λ (w : List ℕ). w ++ more) b.parts ∙ (rw append_assoc (rw append_assoc refl)) in
      let longer : BeginsWithHead r.0.0 r.0.2 (r.0.3 ++ more) (octets ++ more) = record { octets = b.octets; is_tag = b.is_tag; says = b.says; parts = parts } in
      ap (may_hold_behind tag) (begins_again r.0.0 r.0.2 (r.0.3 ++ more) (octets ++ more) longer) ∙ hold-longer tag r.0.3 more held
]

pub goes-longer : (o : ℕ) (os more : List ℕ) → may_go_on (o ∷ os) ≡ false → may_go_on (o ∷ (os ++ more)) ≡ false
goes-longer o os more h = by (is_message_tag o) refl h where
  by : (t : Bool) → is_message_tag o ≡ t → (t && may_hold_behind o (head_at (o ∷ os))) ≡ false → (is_message_tag o && may_hold_behind o (head_at (o ∷ (os ++ more)))) ≡ false
  by false e k = ap (λ (b : Bool). b && may_hold_behind o (head_at (o ∷ (os ++ more)))) e
  by true e k = ap (λ (b : Bool). b && may_hold_behind o (head_at (o ∷ (os ++ more)))) e ∙ behind-longer o (o ∷ os) more k
