-- The queue of a dialogue, by its history.
use Rattle.std.specs.Prelude.{ℕ, List, [], ◌∷◌, ◌++◌, Bool, true, false, map, flat_map, option_to_list, unwrap_or, Some, None, Result, Ok, Err, if◌then◌else◌}
use Rattle.tcap_pdu.specs.declared.fault.FrameFault.{FrameFault}
use Rattle.tcap_pdu.specs.FrameSpelling.{Message}
use Rattle.tcap_pdu.specs.FrameReading.{frame_at}
use Rattle.tcap_component.specs.ComponentReading.{components_of}
use Rattle.tcap_model.specs.Words.Answer.{Answer, is_accepted}
use Rattle.tcap_model.specs.Histories.Birth.{is_birth_of}
use Rattle.tcap_model.specs.Procedures.ComponentHandling.{Item, Handled, handled, subject_of}
use Rattle.tcap_model.specs.Procedures.ComponentRequest.{queued_for}
use Rattle.tcap_model.specs.Words.Event.{Event}
use Rattle.tcap_model.specs.Histories.Life.{Life, life}
use Rattle.tcap_model.specs.Histories.Names.{names}
use Rattle.tcap_model.specs.Invocations.Numbers.{number_of}
use Rattle.tcap_model.specs.Invocations.SentThere.{sent_there}
use Rattle.tcap_model.specs.Histories.Pair.{Pair, Past}
use Rattle.tcap_model.specs.Procedures.PortionRules.{PortionVerdict, portion_verdict}
use Rattle.tcap_model.specs.Procedures.QueueRules.{Queued, queue_limit, queued, queue_each, without_invoke}
use Rattle.tcap_model.specs.Words.Request.{Request, Ending, ComponentRequest, DialogueRequest}
use Rattle.tcap_model.specs.Words.State.{is_live}

-- ---- the components of a message

-- The components of a message to a dialogue, each with what stands before it
-- (Q.774, Component handling).
abbrev pub handled_after : ℕ → Past → List Item → List Item → List Handled
handled_after dialogue past earlier [] = []
handled_after dialogue past earlier (item ∷ items) =
    handled (Some dialogue) (sent_there dialogue past earlier (subject_of item)) item
    ∷ handled_after dialogue past (earlier ++ item ∷ []) items

-- The components in the contents of a component portion (Q.774, Component handling).
abbrev pub handled_in : ℕ → Past → List ℕ → List Handled
handled_in dialogue past components = handled_after dialogue past [] (components_of components)

-- ---- the Rejects

-- The Rejects of some components, as they are queued (Q.774, Component related abnormal conditions).
abbrev pub rejects_of : List Handled → List Queued
rejects_of components = map (queued None) (flat_map (λ (h : Handled). option_to_list h.reject) components)

-- The queue after the Rejects of the components of a normal Continue; an abnormal one has none
-- (Q.774, Component related abnormal conditions).
abbrev pub queue_by_verdict : PortionVerdict → List Queued → List Handled → List Queued
queue_by_verdict (PortionVerdict.normal context info) queue components =
    queue_each queue_limit queue (rejects_of components)
queue_by_verdict PortionVerdict.abnormal queue components = queue

-- The queue after a message to a live dialogue: that of an End doesn't matter any more (own).
abbrev pub queue_by_message : ℕ → Past → Life → List Queued → Result Message FrameFault → List Queued
queue_by_message dialogue past (Life.standing state context) queue (Ok (Message.go_on origin to portion components)) =
    queue_by_verdict (portion_verdict state context portion) queue (handled_in dialogue past components)
queue_by_message dialogue past (Life.standing state context) queue (Ok (Message.unidirectional portion components)) =
    queue
queue_by_message dialogue past (Life.standing state context) queue (Ok (Message.begin origin portion components)) =
    queue
queue_by_message dialogue past (Life.standing state context) queue (Ok (Message.end to portion components)) = queue
queue_by_message dialogue past (Life.standing state context) queue (Ok (Message.abort to reason)) = queue
queue_by_message dialogue past (Life.standing state context) queue (Err f) = queue
queue_by_message dialogue past Life.unborn queue read = queue
queue_by_message dialogue past Life.over queue read = queue

-- The queue of a dialogue that a Begin creates: the Rejects of its components
-- (Q.774, Component related abnormal conditions).
abbrev pub queue_at_birth : ℕ → Past → Result Message FrameFault → List Queued
queue_at_birth dialogue past (Ok (Message.begin origin portion components)) =
    queue_each queue_limit [] (rejects_of (handled_in dialogue past components))
queue_at_birth dialogue past (Ok (Message.unidirectional portion components)) = []
queue_at_birth dialogue past (Ok (Message.go_on origin to portion components)) = []
queue_at_birth dialogue past (Ok (Message.end to portion components)) = []
queue_at_birth dialogue past (Ok (Message.abort to reason)) = []
queue_at_birth dialogue past (Err f) = []

-- ---- the queue

-- The number of an invocation that an answer carries, 0 where it carries none: only an Invoke in the
-- queue has one (own).
abbrev pub number_in : Answer → ℕ
number_in answer = unwrap_or (number_of answer) 0

-- The queue without the Invoke of an invocation that was given up; one that was sent isn't in it
-- (Q.774, Invocation state machine).
abbrev pub queue_after_cancel : Answer → List Queued → List Queued
queue_after_cancel (Answer.given_up number) queue = without_invoke number queue
queue_after_cancel (Answer.new_dialogue dialogue) queue = queue
queue_after_cancel (Answer.number number) queue = queue
queue_after_cancel Answer.done queue = queue
queue_after_cancel (Answer.outputs outputs) queue = queue
queue_after_cancel (Answer.refused fault) queue = queue

-- The queue after an accepted request: a component request appends its component; TC-UNI, TC-BEGIN,
-- TC-CONTINUE and a basic TC-END take all (Q.774, Component handling).
abbrev pub queue_by_request : List Queued → Request → Answer → List Queued
queue_by_request queue (Request.component (ComponentRequest.invoke id class code parameter linked timeout)) answer =
    queue ++ option_to_list (queued_for (number_in answer)
    (Request.component (ComponentRequest.invoke id class code parameter linked timeout)))
queue_by_request queue (Request.component (ComponentRequest.result_last id body)) answer =
    queue ++ option_to_list (queued_for 0 (Request.component (ComponentRequest.result_last id body)))
queue_by_request queue (Request.component (ComponentRequest.result_more id body)) answer =
    queue ++ option_to_list (queued_for 0 (Request.component (ComponentRequest.result_more id body)))
queue_by_request queue (Request.component (ComponentRequest.error_back id code parameter)) answer =
    queue ++ option_to_list (queued_for 0 (Request.component (ComponentRequest.error_back id code parameter)))
queue_by_request queue (Request.component (ComponentRequest.u_reject id problem)) answer =
    queue ++ option_to_list (queued_for 0 (Request.component (ComponentRequest.u_reject id problem)))
queue_by_request queue (Request.component (ComponentRequest.u_cancel id)) answer = queue_after_cancel answer queue
queue_by_request queue (Request.dialogue (DialogueRequest.uni to context info)) answer = []
queue_by_request queue (Request.dialogue (DialogueRequest.begin to context info)) answer = []
queue_by_request queue (Request.dialogue (DialogueRequest.go_on context info)) answer = []
queue_by_request queue (Request.dialogue (DialogueRequest.finish Ending.basic context info)) answer = []
queue_by_request queue (Request.dialogue (DialogueRequest.finish Ending.prearranged context info)) answer = queue
queue_by_request queue (Request.dialogue (DialogueRequest.u_abort why info)) answer = queue

-- A refused request changes nothing (own).
abbrev pub queue_if_accepted : Bool → List Queued → Request → Answer → List Queued
queue_if_accepted false queue request answer = queue
queue_if_accepted true queue request answer = queue_by_request queue request answer

-- The queue after received bytes that name the dialogue; one that isn't live takes no message (own).
abbrev pub queue_by_bytes : ℕ → Past → Life → List Queued → List ℕ → List Queued
queue_by_bytes dialogue past Life.unborn queue bytes = queue
queue_by_bytes dialogue past Life.over queue bytes = queue
queue_by_bytes dialogue past (Life.standing state context) queue bytes =
    if is_live state then queue_by_message dialogue past (Life.standing state context) queue (frame_at bytes) else queue

-- The queue after an event that names the dialogue (own).
abbrev pub queue_by_event : ℕ → Past → List Queued → Event → Answer → List Queued
queue_by_event dialogue past queue Event.new_dialogue answer = queue
queue_by_event dialogue past queue (Event.on_dialogue named request) answer =
    queue_if_accepted (is_accepted answer) queue request answer
queue_by_event dialogue past queue (Event.received from bytes) answer =
    queue_by_bytes dialogue past (life dialogue past) queue bytes
queue_by_event dialogue past queue (Event.moment now) answer = queue

-- The queue that an event creates a dialogue with (own).
abbrev pub queue_born : ℕ → Past → Event → List Queued
queue_born dialogue past Event.new_dialogue = []
queue_born dialogue past (Event.on_dialogue named request) = []
queue_born dialogue past (Event.received from bytes) = queue_at_birth dialogue past (frame_at bytes)
queue_born dialogue past (Event.moment now) = []

-- The queue after a pair (own).
abbrev pub queue_after : ℕ → Past → List Queued → Pair → List Queued
queue_after dialogue past queue pair =
    if is_birth_of dialogue pair then queue_born dialogue past pair.event
    else (if names pair.event dialogue then queue_by_event dialogue past queue pair.event pair.answer else queue)

-- The components that wait for the next message of a dialogue (Q.774, Component handling).
abbrev pub queue : ℕ → Past → List Queued
queue dialogue [] = []
queue dialogue (pair ∷ past) = queue_after dialogue past (queue dialogue past) pair
