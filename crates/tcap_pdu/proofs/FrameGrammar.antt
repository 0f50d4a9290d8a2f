-- A message that is read is spelled so, and what is spelled so is read; and the faults.
use Rattle.std.proofs.Common.{◌≡◌, ℕ, true, false, cond, eqb, List, [], ◌∷◌, is_ok, Option, Some, None, Ok, Err, Result, IfOk, IfErr, IsOkAnd, refl, sym, ap, subst, ◌∙◌, ◌⊎◌, inl, inr, eqb-true}
use Rattle.std.proofs.lemmas.Bool.{cases_Bool}
use Rattle.std.specs.List.{list_all}
use Rattle.ber_core.specs.Results.{Gives}
use Rattle.ber_core.specs.Element.{Parts, IsElement}
use Rattle.ber_core.specs.ListReading.{items_of}
use Rattle.ber_core.specs.SequenceReading.{alone_at}
use Rattle.ber_core.proofs.CallerLemmas.{read_is, refused_is, not_read, not_refused, some, some_is, not_some, by_option, alone_takes, alone_again, list_takes, list_again}
use Rattle.tcap_pdu.specs.FrameSpelling.{Message, message_tag, IsFrame, SpellsFrame}
use Rattle.tcap_pdu.specs.FrameSpelling.Message.{unidirectional, begin, end, go_on, abort}
use Rattle.tcap_pdu.specs.FrameSpelling.Reason.{nothing}
use Rattle.tcap_pdu.specs.FrameFaults.{HasMessageTag, IsFrameFault}
use Rattle.tcap_pdu.specs.FrameFaults.IsFrameFault.{no_element, no_message, no_list, no_sequence}
use Rattle.tcap_pdu.specs.FrameReading.{message_at, type_at, contents_by, frame_at}
use Rattle.tcap_pdu.specs.declared.frame.read.MessageType.{MessageType}
use Rattle.tcap_pdu.specs.declared.frame.read.MessageType.TheVariants as kind
use Rattle.tcap_pdu.specs.declared.fault.FrameFault.{FrameFault}
use Rattle.tcap_pdu.specs.declared.fault.FrameFault.TheVariants.{BadlyFormatted}
use Rattle.tcap_pdu.proofs.MessageGrammar.{message_takes, message_again, kind_of, type_again}

-- ---- tags

abbrev kind_tag : MessageType → ℕ
kind_tag kind.Uni = 0x61
kind_tag kind.Begin = 0x62
kind_tag kind.End = 0x64
kind_tag kind.Continue = 0x65
kind_tag kind.Abort = 0x67

turn : (n : ℕ) (j k : MessageType) (o : Option MessageType) → cond (eqb n (kind_tag j)) (some j) o ≡ some k → (n ≡ kind_tag k) ⊎ (o ≡ some k)
turn n j k o e = elim (cases_Bool (eqb n (kind_tag j))) [
  | inl t ↦ let e = e in inl (eqb-true n (kind_tag j) t ∙ ap kind_tag (some_is j k (rw t at e)))
  | inr t ↦ let e = e in inr (rw t at e)
]

type_takes : (t : List ℕ) (k : MessageType) → type_at t ≡ Some k → t ≡ kind_tag k ∷ []
unfolding type_at
type_takes [] k e = absurd (not_some k e)
type_takes (n ∷ []) k e = ap (λ (m : ℕ). m ∷ []) (elim (turn n kind.Uni k _ e) [
  | inl p ↦ p
  | inr e ↦ elim (turn n kind.Begin k _ e) [
    | inl p ↦ p
    | inr e ↦ elim (turn n kind.End k _ e) [
      | inl p ↦ p
      | inr e ↦ elim (turn n kind.Continue k _ e) [
        | inl p ↦ p
        | inr e ↦ elim (turn n kind.Abort k None e) [ inl p ↦ p | inr e ↦ absurd (not_some k e) ]
      ]
    ]
  ]
])
type_takes (n ∷ m ∷ more) k e = absurd (not_some k e)

-- some message of each type
sample : (k : MessageType) → (m : Message) × (message_tag m ≡ kind_tag k)
sample kind.Uni = (unidirectional None [], refl)
sample kind.Begin = (begin [] None [], refl)
sample kind.End = (end [] None [], refl)
sample kind.Continue = (go_on [] [] None [], refl)
sample kind.Abort = (abort [] nothing, refl)

has_tag : (e : Parts) (k : MessageType) → type_at e.tag ≡ Some k → HasMessageTag e
has_tag e k h = let s = sample k in (s.0, type_takes e.tag k h ∙ ap (λ (n : ℕ). n ∷ []) (sym s.1))

type_from : (e : Parts) → HasMessageTag e → (k : MessageType) × (type_at e.tag ≡ Some k)
type_from e h = (kind_of h.0, ap type_at h.1 ∙ type_again h.0)

-- ---- messages

pub is_frame : (e : Parts) (k : MessageType) (m : Message) → type_at e.tag ≡ Some k → message_at k e.content ≡ Some m → IsFrame m e
is_frame e k m t h =
    let s = message_takes k e.content m h in
    record {
      is_tag = type_takes e.tag k t ∙ sym (type_takes (message_tag m ∷ []) k s.0);
      in_sequence = s.1;
      has_ids = s.2;
      has_cause = s.3;
    }

frame_reads : (m : Message) (e : Parts) → IsFrame m e → (type_at e.tag ≡ Some (kind_of m)) × (list_all is_ok (items_of e.content) ≡ true) × (message_at (kind_of m) e.content ≡ Some m)
frame_reads m e h =
    let s = h.in_sequence in (
      ap type_at h.is_tag ∙ type_again m,
      list_again s.elements e.content s.is_list,
      message_again m e.content s h.has_ids h.has_cause,
    )

alone : (bytes : List ℕ) (e : Parts) → IsElement 32 e → bytes ≡ e.whole → alone_at bytes ≡ Some e
alone bytes e i is = ap alone_at is ∙ alone_again e i

pub frame_again : (m : Message) (bytes : List ℕ) → SpellsFrame m bytes → frame_at bytes ≡ Ok m
unfolding frame_at
frame_again m bytes h =
    let r = frame_reads m h.element h.is_frame in
    rw (alone bytes h.element h.is_element h.is_whole, r.0, r.1, r.2) refl

-- each way through a reading
abbrev IsRead : List ℕ → Result Message FrameFault → Type 0
IsRead bytes (Ok m) = SpellsFrame m bytes
IsRead bytes (Err f) = IsFrameFault bytes f

contents_read : (e : Parts) (k : MessageType) → IsElement 32 e → type_at e.tag ≡ Some k → IsRead e.whole (contents_by (Some k) e.content)
contents_read e k i t = elim (cases_Bool (list_all is_ok (items_of e.content))) [
  | inl l ↦
      let es = list_takes e.content l in
      elim (by_option (message_at k e.content)) [
        | inl n ↦ rw (l, n) (no_sequence e es.0 i (has_tag e k t) es.1 (λ m f. let r = frame_reads m e f in
            let same : some k ≡ some (kind_of m) = sym t ∙ r.0 in
            not_some m (sym n ∙ (ap (λ (j : MessageType). message_at j e.content) (some_is k (kind_of m) same) ∙ r.2))))
        | inr m ↦ rw (l, m.1) (record { element = e; is_element = i; is_whole = refl; is_frame = is_frame e k m.0 t m.1 })
      ]
  | inr l ↦ rw l (no_list e i (has_tag e k t) (λ es h. let both : true ≡ false = sym (list_again es e.content h) ∙ l in absurd cc))
]

element_read : (e : Parts) → IsElement 32 e → IsRead e.whole (contents_by (type_at e.tag) e.content)
element_read e i = elim (by_option (type_at e.tag)) [
  | inl n ↦ rw n (no_message e i (λ h. let k = type_from e h in not_some k.0 (sym n ∙ k.1)))
  | inr k ↦ rw k.1 (contents_read e k.0 i k.1)
]

pub frame_read : (bytes : List ℕ) → IsRead bytes (frame_at bytes)
unfolding frame_at
frame_read bytes = elim (by_option (alone_at bytes)) [
  | inl n ↦ rw n (no_element bytes (λ h. not_some h.0 (sym n ∙ alone bytes h.0 h.1 h.2)))
  | inr e ↦ let t = alone_takes bytes e.0 e.1 in rw e.1 (subst (λ (w : List ℕ). IsRead w (contents_by (type_at e.0.tag) e.0.content)) (sym t.1) (element_read e.0 t.0))
]

pub frame_takes : (bytes : List ℕ) (m : Message) → frame_at bytes ≡ Ok m → SpellsFrame m bytes
frame_takes bytes m e = subst (IsRead bytes) e (frame_read bytes)

pub frame_fails : (bytes : List ℕ) (f : FrameFault) → frame_at bytes ≡ Err f → IsFrameFault bytes f
frame_fails bytes f e = subst (IsRead bytes) e (frame_read bytes)

read_whole : (e : Parts) → IsElement 32 e → frame_at e.whole ≡ contents_by (type_at e.tag) e.content
unfolding frame_at
read_whole e i = rw (alone_again e i) refl

not_alone : (bytes : List ℕ) → alone_at bytes ≡ None → frame_at bytes ≡ Err BadlyFormatted
unfolding frame_at
not_alone bytes n = rw n refl

pub frame_told : (bytes : List ℕ) (f : FrameFault) → IsFrameFault bytes f → frame_at bytes ≡ Err f
frame_told bytes f (no_element w h) = elim (by_option (alone_at w)) [
  | inl n ↦ not_alone w n
  | inr e ↦ let t = alone_takes w e.0 e.1 in absurd (h (e.0, t.0, t.1))
]
frame_told bytes f (no_message e i h) = elim (by_option (type_at e.tag)) [
  | inl n ↦ read_whole e i ∙ rw n refl
  | inr k ↦ absurd (h (has_tag e k.0 k.1))
]
frame_told bytes f (no_list e i t h) =
    let k = type_from e t in
    elim (cases_Bool (list_all is_ok (items_of e.content))) [
      | inl l ↦ let es = list_takes e.content l in absurd (h es.0 es.1)
      | inr l ↦ read_whole e i ∙ rw (k.1, l) refl
    ]
frame_told bytes f (no_sequence e es i t l h) =
    let k = type_from e t in
    elim (by_option (message_at k.0 e.content)) [
      | inl n ↦ read_whole e i ∙ rw (k.1, list_again es e.content l, n) refl
      | inr m ↦ absurd (h m.0 (is_frame e k.0 m.0 k.1 m.1))
    ]

-- ---- the laws, and the clauses of read_frame

pub one_frame : (m n : Message) (bytes : List ℕ) → SpellsFrame m bytes → SpellsFrame n bytes → m ≡ n
one_frame m n bytes p q = read_is {E = FrameFault} m n (sym (frame_again m bytes p) ∙ frame_again n bytes q)

pub one_fault : (bytes : List ℕ) (f g : FrameFault) → IsFrameFault bytes f → IsFrameFault bytes g → f ≡ g
one_fault bytes f g p q = refused_is {A = Message} f g (sym (frame_told bytes f p) ∙ frame_told bytes g q)

pub no_frame : (m : Message) (bytes : List ℕ) (f : FrameFault) → SpellsFrame m bytes → IsFrameFault bytes f → ⊥
no_frame m bytes f p q = not_refused f m (sym (frame_again m bytes p) ∙ frame_told bytes f q)

module _ {X : Type 0} (view : X → Message) (bytes : List ℕ) where
  pub found : (r : Result X FrameFault) → Gives view r (frame_at bytes) → IfOk r (λ x. SpellsFrame (view x) bytes)
  found (Ok x) e = frame_takes bytes (view x) e
  found (Err f) e = tt

  pub only : (r : Result X FrameFault) → Gives view r (frame_at bytes) → (m : Message) → SpellsFrame m bytes → IsOkAnd r (λ x. view x ≡ m)
  only (Ok x) e m h = read_is {E = FrameFault} (view x) m (sym e ∙ frame_again m bytes h)
  only (Err f) e m h = absurd (not_read f m (sym e ∙ frame_again m bytes h))

  pub fault : (r : Result X FrameFault) → Gives view r (frame_at bytes) → IfErr r (λ f. IsFrameFault bytes f)
  fault (Ok x) e = tt
  fault (Err f) e = frame_fails bytes f e
