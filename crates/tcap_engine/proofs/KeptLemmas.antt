-- What a dialogue keeps where it moves: its identifier, how long an identifier waits, and that the
-- numbers of its invocations were drawn.
use Rattle.std.proofs.Common.{◌≡◌, ℕ, ℤ, ◌+◌, Bool, true, false, List, [], ◌∷◌, Option, Some, None, Ok, Err, refl, arith}
use Rattle.tcap_component.specs.ComponentReading.{components_of}
use Rattle.tcap_component.specs.Component.ComponentParts.{invoke, result_last, error_back, reject_back, result_more}
use Rattle.tcap_component.specs.declared.problem.Kind.{Kind}
use Rattle.tcap_component.specs.declared.problem.Kind.TheVariants as kind
use Rattle.tcap_invocation.specs.Class.{Received}
use Rattle.tcap_invocation.specs.Invocations.{InvocationList, AllBelow, freed, added}
use Rattle.tcap_invocation.specs.Closing.{given_up_at}
use Rattle.tcap_invocation.proofs.CallerLemmas.{AllBelow-more, AllBelow-freed, AllBelow-after_received, AllBelow-after_sent, AllBelow-added}
use Rattle.tcap_model.specs.Procedures.ComponentHandling.{Item}
use Rattle.tcap_model.specs.Procedures.ComponentRequest.{queued_for}
use Rattle.tcap_model.specs.Procedures.PortionRules.{PortionVerdict, portion_verdict}
use Rattle.tcap_model.specs.Procedures.QueueRules.{Queued}
use Rattle.tcap_model.specs.Table.Dialogue.{Dialogue, with_invocations}
use Rattle.tcap_model.specs.Table.EngineMove.{number_after}
use Rattle.tcap_model.specs.Table.TableMove.{Setting, Walked, after_item, walked, walked_in, with_queued, freed_by, giving_up, accepted, requested_by, framed, continued_by, ended_by, over_with}
use Rattle.tcap_model.specs.Words.Address.{Address}
use Rattle.tcap_model.specs.Words.Fault.{Fault}
use Rattle.tcap_model.specs.Words.Output.{Output}
use Rattle.tcap_model.specs.Words.Request.{Request, ComponentRequest, DialogueRequest}
use Rattle.tcap_pdu.specs.FrameSpelling.{Message}
use Rattle.tcap_engine.specs.DialogueEntries.{IsWithin}

-- A dialogue of this identifier that an engine may keep.
abbrev pub IsKept : ℕ → ℕ → ℕ → Dialogue → Type 0
IsKept identifier reject_ms next d = (d.standing.identifier ≡ identifier) × IsWithin reject_ms next d

-- Invocations that an engine may keep.
abbrev Fit : ℕ → ℕ → InvocationList → Type 0
Fit reject_ms next list = (list.reject_ms ≡ reject_ms) × AllBelow next list.rows

module _ (reject_ms next : ℕ) where
  fit-freed : (list : InvocationList) (id : ℤ) (b : Bool) → Fit reject_ms next list → Fit reject_ms next (freed list id b)
  fit-freed list id true h = (h.0, AllBelow-freed next list h.1 id true)
  fit-freed list id false h = h

  fit-freed_by : (list : InvocationList) (o : Option ℤ) (k : Kind) → Fit reject_ms next list → Fit reject_ms next (freed_by list o k)
  fit-freed_by list None k h = h
  fit-freed_by list (Some id) kind.General h = h
  fit-freed_by list (Some id) kind.Invoke h = h
  fit-freed_by list (Some id) kind.Result h = fit-freed list id _ h
  fit-freed_by list (Some id) kind.Error h = fit-freed list id _ h

  -- ---- messages

  fit-item : (clock : ℕ) (list : InvocationList) (item : Item) → Fit reject_ms next list → Fit reject_ms next (after_item clock list item)
  fit-item clock list (Ok (invoke id linked code parameter)) h = h
  fit-item clock list (Ok (result_last id body)) h = (h.0, AllBelow-after_received next list h.1 id Received.return_result_last clock)
  fit-item clock list (Ok (result_more id body)) h = (h.0, AllBelow-after_received next list h.1 id Received.return_result_not_last clock)
  fit-item clock list (Ok (error_back id code parameter)) h = (h.0, AllBelow-after_received next list h.1 id Received.return_error clock)
  fit-item clock list (Ok (reject_back None problem)) h = h
  fit-item clock list (Ok (reject_back (Some id) problem)) h = fit-freed list id _ h
  fit-item clock list (Err f) h = h

  pub fit-walked : (dialogue clock : ℕ) (list : InvocationList) (items : List Item) → Fit reject_ms next list → Fit reject_ms next (walked dialogue clock list items).invocations
  fit-walked dialogue clock list [] h = h
  fit-walked dialogue clock list (item ∷ items) h = fit-walked dialogue clock (after_item clock list item) items (fit-item clock list item h)

  kept-over : (d : Dialogue) (first : List Output) (list : InvocationList) → IsWithin reject_ms next d → IsKept d.standing.identifier reject_ms next (over_with d first list).after
  kept-over d first list h = (refl, (h.0, tt))

  kept-continued : (s : Setting) (d : Dialogue) (from : Address) (origin : List ℕ) (v : PortionVerdict) (w : Walked) → Fit reject_ms next w.invocations → IsWithin reject_ms next d → IsKept d.standing.identifier reject_ms next (continued_by s d from origin v w).after
  kept-continued s d from origin (PortionVerdict.normal context info) w f h = (refl, f)
  kept-continued s d from origin PortionVerdict.abnormal w f h = (refl, (h.0, tt))

  kept-ended : (d : Dialogue) (v : PortionVerdict) (w : Walked) → IsWithin reject_ms next d → IsKept d.standing.identifier reject_ms next (ended_by d v w).after
  kept-ended d (PortionVerdict.normal context info) w h = (refl, (h.0, tt))
  kept-ended d PortionVerdict.abnormal w h = (refl, (h.0, tt))

  -- A message keeps all of it.
  pub kept-framed : (s : Setting) (d : Dialogue) (from : Address) (m : Message) → IsWithin reject_ms next d → IsKept d.standing.identifier reject_ms next (framed s d from m).after
  kept-framed s d from (Message.unidirectional portion components) h = (refl, h)
  kept-framed s d from (Message.begin origin portion components) h = (refl, h)
  kept-framed s d from (Message.go_on origin to portion components) h =
      kept-continued s d from origin (portion_verdict d.standing.state d.standing.context portion) (walked_in s.clock d components)
      (fit-walked d.standing.identifier s.clock d.invocations (components_of components) h) h
  kept-framed s d from (Message.end to portion components) h = kept-ended d (portion_verdict d.standing.state d.standing.context portion) (walked_in s.clock d components) h
  kept-framed s d from (Message.abort to reason) h = (refl, (h.0, tt))

-- ---- requests

kept-queued : (reject_ms next : ℕ) (d : Dialogue) (o : Option Queued) → IsWithin reject_ms next d → IsKept d.standing.identifier reject_ms next (with_queued d o)
kept-queued reject_ms next d None h = (refl, h)
kept-queued reject_ms next d (Some c) h = (refl, h)

kept-given_up : (reject_ms next : ℕ) (d : Dialogue) (id : ℤ) (o : Option ℕ) → IsWithin reject_ms next d → IsKept d.standing.identifier reject_ms (number_after (giving_up d id o).answer next) (giving_up d id o).after
kept-given_up reject_ms next d id None h = (refl, h)
kept-given_up reject_ms next d id (Some number) h = (refl, fit-freed reject_ms next d.invocations id _ h)

kept-accepted : (reject_ms : ℕ) (s : Setting) (d : Dialogue) (r : Request) → IsWithin reject_ms s.number d → IsKept d.standing.identifier reject_ms (number_after (accepted s d r).answer s.number) (accepted s d r).after
kept-accepted reject_ms s d (Request.component (ComponentRequest.invoke id class code parameter linked timeout)) h =
    let more : AllBelow (s.number + 1) d.invocations.rows = AllBelow-more s.number (s.number + 1) d.invocations.rows (omega arith) h.1 in
    kept-queued reject_ms (s.number + 1) (with_invocations d (added d.invocations id s.number class timeout)) (queued_for s.number (Request.component (ComponentRequest.invoke id class code parameter linked timeout)))
    (h.0, AllBelow-added (s.number + 1) d.invocations more id s.number class timeout (omega arith))
kept-accepted reject_ms s d (Request.component (ComponentRequest.result_last id body)) h = kept-queued reject_ms s.number d (queued_for s.number (Request.component (ComponentRequest.result_last id body))) h
kept-accepted reject_ms s d (Request.component (ComponentRequest.result_more id body)) h = kept-queued reject_ms s.number d (queued_for s.number (Request.component (ComponentRequest.result_more id body))) h
kept-accepted reject_ms s d (Request.component (ComponentRequest.error_back id code parameter)) h = kept-queued reject_ms s.number d (queued_for s.number (Request.component (ComponentRequest.error_back id code parameter))) h
kept-accepted reject_ms s d (Request.component (ComponentRequest.u_reject id problem)) h =
    kept-queued reject_ms s.number (with_invocations d (freed_by d.invocations id problem.kind)) (queued_for s.number (Request.component (ComponentRequest.u_reject id problem))) (fit-freed_by reject_ms s.number d.invocations id problem.kind h)
kept-accepted reject_ms s d (Request.component (ComponentRequest.u_cancel id)) h = kept-given_up reject_ms s.number d id (given_up_at d.invocations.rows id) h
kept-accepted reject_ms s d (Request.dialogue (DialogueRequest.uni to context info)) h = (refl, (h.0, tt))
kept-accepted reject_ms s d (Request.dialogue (DialogueRequest.begin to context info)) h = (refl, (h.0, AllBelow-after_sent s.number d.invocations h.1 s.clock))
kept-accepted reject_ms s d (Request.dialogue (DialogueRequest.go_on context info)) h = (refl, (h.0, AllBelow-after_sent s.number d.invocations h.1 s.clock))
kept-accepted reject_ms s d (Request.dialogue (DialogueRequest.finish ending context info)) h = (refl, (h.0, tt))
kept-accepted reject_ms s d (Request.dialogue (DialogueRequest.u_abort why info)) h = (refl, (h.0, tt))

-- A request keeps all of it, where a number that it draws counts as drawn.
pub kept-requested : (reject_ms : ℕ) (s : Setting) (d : Dialogue) (r : Request) (o : Option Fault) → IsWithin reject_ms s.number d → IsKept d.standing.identifier reject_ms (number_after (requested_by s d r o).answer s.number) (requested_by s d r o).after
kept-requested reject_ms s d r (Some f) h = (refl, h)
kept-requested reject_ms s d r None h = kept-accepted reject_ms s d r h
