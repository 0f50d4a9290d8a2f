-- What waits in a queue comes from its dialogue, and can be written.
use Rattle.std.proofs.Common.{◌≡◌, ℕ, Bool, not, List, [], ◌∷◌, ◌++◌, map, flat_map, filter, option_to_list, Option, Some, None, refl, sym, ap, subst, ◌∙◌, inl, inr, append_assoc}
use Rattle.std.specs.List.{AllByRecursion}
use Rattle.std.proofs.lemmas.Bool.{cases_Bool}
use Rattle.tcap_component.specs.Component.{ComponentParts, InRange}
use Rattle.tcap_component.specs.Written.{written_component, CanWriteComponent}
use Rattle.tcap_model.specs.Words.Answer.{Answer}
use Rattle.tcap_model.specs.Procedures.ComponentHandling.{Handled, told_of}
use Rattle.tcap_model.specs.Statements.SentFrom.{ComesFrom}
use Rattle.tcap_model.specs.Words.Event.{Event}
use Rattle.tcap_model.specs.Words.Output.{Output}
use Rattle.tcap_model.specs.Histories.Pair.{Pair, Past}
use Rattle.tcap_model.specs.Statements.Places.{StandsIn, Tells}
use Rattle.tcap_model.specs.Replies.Queue.{rejects_of}
use Rattle.tcap_model.specs.Procedures.QueueRules.{Queued, queued, fits, queue_if_fits, queue_each, asks_for, without_invoke}
use Rattle.tcap_laws.proofs.Queues.FormedRejects.{IsFormed, HasFormed, reject-can}
use Rattle.tcap_laws.proofs.ListLemmas.{each-append}
use Rattle.tcap_model.specs.Words.Address.{Address}

-- what waits is the octets of a component that comes from the dialogue and can be written
pub record IsKept (dialogue : ℕ) (past : Past) (q : Queued) : Type 0 where
  pub component : ComponentParts
  pub is_octets : q.octets ≡ written_component component
  pub comes : ComesFrom dialogue past component
  pub in_range : InRange component
  pub can : CanWriteComponent component

abbrev pub AllKept : ℕ → Past → List Queued → Type 0
AllKept dialogue past queue = AllByRecursion (IsKept dialogue past) queue

-- ---- later

stands-later : (pair at : Pair) (before past : Past) → StandsIn at before past → StandsIn at before (pair ∷ past)
stands-later pair at before past stands =
    record { later = pair ∷ stands.later; is_past = ap (λ (w : Past). pair ∷ w) stands.is_past }

comes-later : (dialogue : ℕ) (pair : Pair) (past : Past) (c : ComponentParts) → ComesFrom dialogue past c
    → ComesFrom dialogue (pair ∷ past) c
comes-later dialogue pair past c (inl was) = inl (record {
  pair = was.pair;
  before = was.before;
  request = was.request;
  stands = stands-later pair was.pair was.before past was.stands;
  is_event = was.is_event;
  accepted = was.accepted;
  is_component = was.is_component;
})
comes-later dialogue pair past c (inr was) = inr (record {
  pair = was.pair;
  before = was.before;
  from = was.from;
  bytes = was.bytes;
  id = was.id;
  problem = was.problem;
  output = was.output;
  stands = stands-later pair was.pair was.before past was.stands;
  is_event = was.is_event;
  is_component = was.is_component;
  tells = was.tells;
  is_told = was.is_told;
})

pub kept-later : (dialogue : ℕ) (pair : Pair) (past : Past) (queue : List Queued) → AllKept dialogue past queue
    → AllKept dialogue (pair ∷ past) queue
kept-later dialogue pair past [] kept = tt
kept-later dialogue pair past (q ∷ queue) kept =
    let first = kept.0 in (
      record {
        component = first.component;
        is_octets = first.is_octets;
        comes = comes-later dialogue pair past first.component first.comes;
        in_range = first.in_range;
        can = first.can;
      },
      kept-later dialogue pair past queue kept.1,
    )

-- ---- changes of a queue

module _ (P : Queued → Type 0) where
  if_fits-each : (limit : ℕ) (queue : List Queued) (q : Queued) → AllByRecursion P queue → P q
      → AllByRecursion P (queue_if_fits limit queue q)
  if_fits-each limit queue q all here = elim (cases_Bool (fits limit queue q)) [
    | inl yes' ↦ rw yes' (each-append P queue (q ∷ []) all (here, tt))
    | inr no' ↦ rw no' all
  ]

  pub queue_each-each : (limit : ℕ) (queue more : List Queued) → AllByRecursion P queue → AllByRecursion P more
      → AllByRecursion P (queue_each limit queue more)
  queue_each-each limit queue [] all others = all
  queue_each-each limit queue (q ∷ more) all others =
      queue_each-each limit (queue_if_fits limit queue q) more (if_fits-each limit queue q all others.0) others.1

  filtered : (test : Queued → Bool) (queue : List Queued) → AllByRecursion P queue
      → AllByRecursion P (filter test queue)
  filtered test [] all = tt
  filtered test (q ∷ queue) all = elim (cases_Bool (test q)) [
    | inl yes' ↦ rw yes' (all.0, filtered test queue all.1)
    | inr no' ↦ rw no' (filtered test queue all.1)
  ]

  pub without-each : (number : ℕ) (queue : List Queued) → AllByRecursion P queue
      → AllByRecursion P (without_invoke number queue)
  without-each number queue all = filtered (λ (c : Queued). not (asks_for number c.invoking)) queue all

-- ---- the Rejects of a message

module _ (dialogue : ℕ) (from : Address) (bytes : List ℕ) (answer : Answer) (idle_ms : ℕ) (past : Past) where
  abbrev here : Pair
  here = record { event = Event.received from bytes; answer = answer; idle_ms = idle_ms }

  one-kept : (told : Output) (c : ComponentParts) → Tells answer told → IsFormed dialogue told (Some c)
      → IsKept dialogue (here ∷ past) (queued None c)
  one-kept told c tells formed = record {
    component = c;
    is_octets = refl;
    comes = inr (record {
      pair = here;
      before = past;
      from = from;
      bytes = bytes;
      id = formed.0;
      problem = formed.1;
      output = told;
      stands = record { later = []; is_past = refl };
      is_event = refl;
      is_component = formed.2;
      tells = tells;
      is_told = formed.3;
    });
    in_range = subst (λ (x : ComponentParts). InRange x) (sym formed.2) (formed.4, formed.5);
    can = subst (λ (x : ComponentParts). CanWriteComponent x) (sym formed.2) (reject-can formed.0 formed.1);
  }

  first-kept : (told : Output) (reject : Option ComponentParts) (others : List ComponentParts) → Tells answer told
      → IsFormed dialogue told reject → AllKept dialogue (here ∷ past) (map (queued None) others)
      → AllKept dialogue (here ∷ past) (map (queued None) (option_to_list reject ++ others))
  first-kept told None others tells formed rest = rest
  first-kept told (Some c) others tells formed rest = (one-kept told c tells formed, rest)

  pub rejects-kept : (hs : List Handled) (earlier later : List Output)
      → answer ≡ Answer.outputs (earlier ++ (told_of hs ++ later)) → AllByRecursion (HasFormed dialogue) hs
      → AllKept dialogue (here ∷ past) (rejects_of hs)
  rejects-kept [] earlier later is formed = tt
  rejects-kept (h ∷ hs) earlier later is formed =
      first-kept h.told h.reject (flat_map (λ (x : Handled). option_to_list x.reject) hs)
      (record { earlier = earlier; later = told_of hs ++ later; is_answer = is })
      formed.0
      (rejects-kept hs (earlier ++ h.told ∷ []) later
      (is ∙ ap (λ (w : List Output). Answer.outputs w)
      (sym (append_assoc earlier (h.told ∷ []) (told_of hs ++ later)))) formed.1)
