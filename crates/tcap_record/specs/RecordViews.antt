-- Events that were read as a contract sees them.
use Rattle.std.specs.Prelude.{option_copied}
use Rattle.tcap_engine.specs.EventViews.{event_view}
use Rattle.tcap_model.specs.Words.Event as model
use Rattle.tcap_model.specs.Words.Request.{Request, DialogueRequest}
use Rattle.tcap_record.specs.declared.kept.Kept.{Kept}
use Rattle.tcap_record.specs.declared.kept.Kept.TheVariants as kept
use Rattle.tcap_record.specs.declared.recorded.Recorded.{Recorded}

-- The event that is kept, by what its slices hold (own).
abbrev pub kept_view : Kept → model.Event
kept_view (kept.Plain event) = event_view event
kept_view (kept.Uni d to context info) =
    model.Event.on_dialogue d (Request.dialogue (DialogueRequest.uni to (option_copied context) info.now))
kept_view (kept.Begin d to context info) =
    model.Event.on_dialogue d (Request.dialogue (DialogueRequest.begin to (option_copied context) info.now))
kept_view (kept.Bytes from bytes) = model.Event.received from bytes.now

-- The event of a record that was read (own).
abbrev pub recorded_view : Recorded → model.Event
recorded_view r = kept_view r.kept
